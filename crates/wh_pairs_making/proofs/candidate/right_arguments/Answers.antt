use Rattle.std.proofs.Common.{◌≡◌, ◌+◌, ◌-◌, ◌++◌, ℕ, length, map, min, take, ap, ap₂, sym, ◌∙◌, arith, rules}
use Rattle.std.proofs.lemmas.Result.{IfOk-weaker}
use Rattle.std.proofs.lemmas.List.{take-map, take_min, length-map}
use Rattle.wh_terms.specs.Tree.{Tm, free}
use Rattle.wh_terms.specs.Erase.{tm}
use Rattle.wh_terms.specs.Scope.{scope}
use Rattle.wh_terms.specs.Substitution.{act}
use Rattle.wh_pairs.specs.Candidates.{freed, numbered_from}
use Rattle.wh_pairs_calls.specs.Views.{trees}
use Rattle.wh_pairs.proofs.FreedLemmas.{length-scope}
use Rattle.wh_pairs_making.proofs.candidate.right_arguments.Goals as goal

pub returns : goal.returns
returns c =
    let call = c.args.call.now in
    let given : ℕ = c.min-given.result in
    let args = call.arguments.items in
    let σ : ℕ → Tm = freed c.args.first (scope call.binders.items) in
    let least : given ≡ min call.need (length args) = search (rules, c.min-given.ensures, c.len.ensures) in
    let some : trees (take given c.deref.result.now) ≡ take call.need (trees args) =
    ap₂ (λ n xs. trees (take n xs)) least c.deref.ensures.value ∙ ap trees (take_min call.need args) ∙ sym (take-map (λ t. tm t.now) call.need args) in
    let right : map tm c.in_ok-right.right ≡ map (act σ free) (take call.need (trees args)) =
    c.in_ok-right.ensures ∙ ap₂ (λ bs ts. map (act (freed c.args.first (scope bs)) free) ts) c.as_slice.ensures.value some in
    let next : c.in_ok-next.next ≡ c.args.first + length (scope call.binders.items) = omega (arith, c.in_ok-next.ensures, c.in_ok-counted.ensures, c.len-2.ensures, length-scope call.binders.items) in
    let lacking : (call.need - given) ≡ call.need - length (trees args) = omega (arith, least, length-map args (λ t. tm t.now)) in
    IfOk-weaker c.add_missing.result (λ all. map tm all ≡ map tm c.in_ok-right.right ++ numbered_from c.in_ok-next.next (call.need - given))
    (λ all. map tm all ≡ map (act σ free) (take call.need (trees args)) ++ numbered_from (c.args.first + length (scope call.binders.items)) (call.need - length (trees args)))
    (λ all e. e ∙ ap₂ (λ l n. l ++ numbered_from n (call.need - given)) right next ∙ ap (λ n. map (act σ free) (take call.need (trees args)) ++ numbered_from (c.args.first + length (scope call.binders.items)) n) lacking)
    c.add_missing.ensures
