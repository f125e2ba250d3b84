use Rattle.std.proofs.Common.{Box, Global, ◌≡◌, ◌+◌, List, map, take, refl, ap, ap₂, sym, ◌∙◌}
use Rattle.wh_terms.specs.Erase.{tm}
use Rattle.wh_terms.specs.Tree.{Tm, app, fun, spine}
use Rattle.wh_terms.specs.declared.term.Term.{Term}
use Rattle.wh_terms.specs.declared.term.Term.TheVariants.{App}
use Rattle.wh_pairs.proofs.CallLemmas.{spine_more, take_mapped, take_end}
use Rattle.wh_pairs.proofs.applied.call.Goals as goal

pub loop-argument-init : goal.loop-argument-init
loop-argument-init c =
    let done : tm c.in_ok-made.made.value ≡ fun c.args.symbol = ap tm c.in_ok-made.ensures.ok in done

-- an application to a copy
applied : (f u : Box Term Global) (t x y : Term) (a b : Tm) → t ≡ App f u → tm f.value ≡ a → u.value ≡ x → tm x ≡ tm y → tm y ≡ b → tm t ≡ app a b
applied f u t x y a b e first same copied second = ap tm e ∙ ap₂ app first (ap tm same ∙ copied ∙ second)

pub loop-argument-preserved : goal.loop-argument-preserved
loop-argument-preserved c =
    let items : List Term = c.as_slice-argument-items.result.now in
    let i = c.loop-argument.argument-index in
    let head : Tm = fun c.args.symbol in
    let item : Term = c.argument-item.result in
    let before : tm c.loop-argument.made.value ≡ spine head (map tm (take i items)) = c.loop-argument.invariant in
    let one : tm c.in_ok-made-2.made.value ≡ app (spine head (map tm (take i items))) (tm item) =
    applied c.loop-argument.made c.in_ok-last.last c.in_ok-made-2.made.value c.in_ok-copy_term.field-0 item (spine head (map tm (take i items))) (tm item)
    c.in_ok-made-2.ensures.ok before c.in_ok-last.ensures.ok c.in_ok-copy_term.ensures refl in
    let done : tm c.in_ok-made-2.made.value ≡ spine head (map tm (take (i + 1) items)) =
    one ∙ sym (spine_more head (map tm (take i items)) (tm item)) ∙ ap (spine head) (sym (take_mapped tm items i item c.argument-item.is c.loop-argument-test.true)) in done

pub returns : goal.returns
returns c =
    let items : List Term = c.as_slice-argument-items.result.now in
    let before : tm c.loop-argument.made.value ≡ spine (fun c.args.symbol) (map tm (take c.loop-argument.argument-index items)) = c.loop-argument.invariant in
    before ∙ ap (λ (l : List Term). spine (fun c.args.symbol) (map tm l)) (take_end items c.loop-argument.argument-index c.loop-argument-test.false ∙ c.as_slice-argument-items.ensures)
