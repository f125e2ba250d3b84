use Rattle.std.proofs.Common.{ℕ, List, [], ◌∷◌, Contains, length, reverse, refl, sym, ap, subst, ◌∙◌, arith}
use Rattle.std.proofs.lemmas.List.{drop_all}
use Rattle.wh_proof.specs.Nodes.{AreSetsOf, no_sets}
use Rattle.wh_pairs.specs.Sets.{IsSetOf}
use Rattle.wh_proof.proofs.BlockLemmas.{reverse_push, sets_before}
use Rattle.wh_proof.proofs.blocks.open_blocks.Goals as goal

pub loop-i-init : goal.loop-i-init
loop-i-init c =
    let blocks = c.args.blocks.now in
    ([], subst (λ (l : List (List ℕ)). AreSetsOf l []) (sym (drop_all (length blocks) blocks (omega arith))) no_sets, refl)

pub loop-i-preserved : goal.loop-i-preserved
loop-i-preserved c =
    let blocks = c.args.blocks.now in
    let i = c.loop-i.i in
    let set = c.in_ok-set_of.field-0 in
    let (sets, are, stack) = c.loop-i.invariant in
    let is = subst (λ (l : List ℕ). IsSetOf (Contains l) set) c.as_slice.ensures c.in_ok-set_of.ensures in (
      set ∷ sets,
      sets_before blocks sets i c.index-blocks-i.result set (omega (arith, c.loop-i-test.true))
          (omega (arith, c.loop-i.auto.i)) c.index-blocks-i.is is are,
      ap reverse c.in_ok-push.ensures.items ∙ reverse_push c.loop-i.stack.items set ∙ ap (λ (l : List (List ℕ)). set ∷ l) stack,
    )
