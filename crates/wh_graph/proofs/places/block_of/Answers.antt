use Rattle.std.proofs.Common.{◌≡◌, ℕ, List, inl, inr, slice_get, Contains, sym, subst, ap, ◌∙◌, arith}
use Rattle.wh_pairs.proofs.ByPlace.{read, some_one, contains_at, same_or_below}
use Rattle.wh_graph.proofs.places.block_of.Goals as goal

pub loop-i-preserved : goal.loop-i-preserved
loop-i-preserved c =
    let blocks = c.args.blocks.now in
    let i = c.loop-i.i in
    let here = read blocks i c.index-blocks-i.result c.loop-i-test.true c.index-blocks-i.is in
    λ k below (m, (list, at, stands)). elim (same_or_below k i below) [
      | inl same ↦
          let one : list ≡ c.index-blocks-i.result = some_one (sym (ap (slice_get blocks) same) ∙ at) here in
          let found = contains_at list m c.args.number stands in
          cc (c.is_in.ensures.1 (subst (λ (l : List ℕ). Contains l c.args.number) (one ∙ sym c.as_slice.ensures) found), c.if-is_in.false)
      | inr less ↦ c.loop-i.invariant k less (m, (list, at, stands))
    ]

pub returns-clause-first : goal.returns-clause-first
returns-clause-first c = λ k below. c.loop-i.invariant k (omega arith)
