use Rattle.std.proofs.Common.{map, get_or, sym, subst}
use Rattle.wh_pairs.proofs.ByPlace.{read_map, number_at, contains_number, place_of, before_more, before_all}
use Rattle.wh_pairs.proofs.Increasing.{smaller_earlier}
use Rattle.wh_subterm.specs.SubtermRows.{IsDecreasing, chosen}
use Rattle.wh_subterm.proofs.ProjectionLemmas.{decreasing_right, decreasing_wrong, not_both}
use Rattle.wh_intern.specs.TableTrees.{trees}
use Rattle.wh_intern_pairs.specs.SidesAsPairs.{AreNumbersIn, as_pair}
use Rattle.wh_intern_pairs.proofs.decrease.first_not_decreasing.Goals as goal

pub is_decreasing-requires-clause-pair : goal.is_decreasing-requires-clause-pair
is_decreasing-requires-clause-pair c =
    let i = c.loop-number.number-index in
    let n = get_or c.args.set.now i 0 in
    let x = c.index-sides-number.result in
    subst (AreNumbersIn (trees c.args.table.now)) (sym c.index-sides-number.is)
    (c.requires.sides n x (c.requires.set i 0 c.loop-number-test.true))

pub returns-then-not-is_decreasing : goal.returns-then-not-is_decreasing
returns-then-not-is_decreasing c =
    let set = c.args.set.now in
    let i = c.loop-number.number-index in
    let n = get_or set i 0 in
    let view = as_pair (trees c.args.table.now) in
    let ps = map view c.args.sides.now in
    let args = map chosen c.args.args.now in
    let at = read_map view c.args.sides.now n c.index-sides-number.result (c.requires.set i 0 c.loop-number-test.true) c.index-sides-number.is in (
      contains_number set i c.loop-number-test.true,
      decreasing_wrong ps args c.args.drop.now n (view c.index-sides-number.result) c.is_listed-dropped.result at c.is_listed-dropped.ensures (λ right. cc (c.is_decreasing.ensures.decreasing.1 right, c.if-not-is_decreasing.true)),
      λ m less found wrong.
          let there = place_of set m found in
          let right = c.loop-number.invariant.1 there.0 m (smaller_earlier set there.0 i m n c.requires.increasing there.1 (number_at set i c.loop-number-test.true) less) there.1 in
          not_both ps args c.args.drop.now m right wrong,
    )

pub loop-number-preserved : goal.loop-number-preserved
loop-number-preserved c =
    let set = c.args.set.now in
    let i = c.loop-number.number-index in
    let n = get_or set i 0 in
    let view = as_pair (trees c.args.table.now) in
    let ps = map view c.args.sides.now in
    let args = map chosen c.args.args.now in
    let at = read_map view c.args.sides.now n c.index-sides-number.result (c.requires.set i 0 c.loop-number-test.true) c.index-sides-number.is in (
      c.is_decreasing.ensures.asked,
      before_more (IsDecreasing ps args c.args.drop.now) set i n c.loop-number.invariant.1 (number_at set i c.loop-number-test.true)
          (decreasing_right ps args c.args.drop.now n (view c.index-sides-number.result) c.is_listed-dropped.result at c.is_listed-dropped.ensures (c.is_decreasing.ensures.decreasing.0 c.if-not-is_decreasing.false)),
    )

pub returns : goal.returns
returns c =
    λ n found. before_all (IsDecreasing (map (as_pair (trees c.args.table.now)) c.args.sides.now) (map chosen c.args.args.now) c.args.drop.now)
    c.args.set.now c.loop-number.number-index n c.loop-number.invariant.1 c.loop-number-test.false found
