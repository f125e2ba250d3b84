-- Nothing is left uncovered exactly where each right monomial was filled.
use Rattle.std.proofs.Common.{◌≤◌, length, inl, inr, arith, ap}
use Rattle.std.proofs.lemmas.Bool.{cases_lt}
use Rattle.wh_hopoly.specs.Erase.{transfers}
use Rattle.wh_poly_moves.specs.Flows.{positives}
use Rattle.wh_poly_moves.proofs.Covering.{normal_list, sorted_list, none_covers_poly, covering, covering_poly}
use Rattle.wh_poly_moves.proofs.finding.deficit.Goals as goal

pub fill-requires-clause-left : goal.fill-requires-clause-left
fill-requires-clause-left c = normal_list c.args.left.now c.as_slice-givers.result.now c.as_slice-givers.ensures c.requires.left

pub fill-requires-clause-right : goal.fill-requires-clause-right
fill-requires-clause-right c = normal_list c.args.right.now c.as_slice-takers.result.now c.as_slice-takers.ensures c.requires.right

pub returns : goal.returns
returns c =
    let xs = c.as_slice-givers.result.now in let ys = c.as_slice-takers.result.now in
    let few_left : length xs ≤ 65536 = let e = ap length c.as_slice-givers.ensures in omega (arith, e, c.requires.few_left) in
    let few_right : length ys ≤ 65536 = let e = ap length c.as_slice-takers.ensures in omega (arith, e, c.requires.few_right) in (
      λ none. let ms = positives (transfers c.loop-root.flow.moves.items) in (
        ms,
        (covering_poly c.args.left.now c.args.right.now xs ys ms c.as_slice-givers.ensures c.as_slice-takers.ensures
            (covering xs ys c.loop-root.flow few_left few_right (sorted_list xs (normal_list c.args.left.now xs c.as_slice-givers.ensures c.requires.left)) (sorted_list ys (normal_list c.args.right.now ys c.as_slice-takers.ensures c.requires.right))
            c.loop-root.invariant.flow (λ j h. c.loop-root.invariant.filled none j (omega (arith, h, c.loop-root-test.false))))).cover,
      ),
      λ (ms, cover). elim (cases_lt 0 c.loop-root.short) [
        | inl some ↦ absurd (none_covers_poly c.args.left.now c.args.right.now xs ys c.as_slice-givers.ensures c.as_slice-takers.ensures (c.loop-root.invariant.not_filled some) ms cover)
        | inr none ↦ omega (arith, none)
      ],
    )
