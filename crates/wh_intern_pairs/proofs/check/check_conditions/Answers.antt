-- What is found of the entries holds of the pairs.
use Rattle.std.proofs.Common.{map}
use Rattle.wh_system.specs.SystemView.{system_data}
use Rattle.wh_subterm.specs.SubtermRows.{chosen}
use Rattle.wh_subterm.proofs.CheckedRows.{projection_passed}
use Rattle.wh_intern.specs.TableTrees.{trees}
use Rattle.wh_intern_pairs.proofs.SameProjections.{numbers_in, for_marked, for_marked_back, decreasing_same, wrong_same, wrong_back}
use Rattle.wh_intern_pairs.proofs.check.check_conditions.Goals as goal

pub first_not_decreasing-requires-clause-sides : goal.first_not_decreasing-requires-clause-sides
first_not_decreasing-requires-clause-sides c =
    let (ps, are) = c.requires.sides in numbers_in (trees c.args.table.now) c.args.sides.now ps are

pub returns-then-not-are_for_marked : goal.returns-then-not-are_for_marked
returns-then-not-are_for_marked c = λ ps are marked.
    cc (
      c.are_for_marked.ensures.1 (for_marked_back (trees c.args.table.now) c.args.sides.now ps are c.args.set.now (map chosen c.args.args.now) marked),
      c.if-not-are_for_marked.true,
    )

pub returns-in-Some : goal.returns-in-Some
returns-in-Some c = λ ps are. (
  for_marked (trees c.args.table.now) c.args.sides.now ps are c.args.set.now (map chosen c.args.args.now)
      (c.are_for_marked.ensures.0 c.if-not-are_for_marked.false),
  c.in-Some.ensures,
)

pub returns-in-Some-first_out_of_place : goal.returns-in-Some-first_out_of_place
returns-in-Some-first_out_of_place c = λ ps are. (
  for_marked (trees c.args.table.now) c.args.sides.now ps are c.args.set.now (map chosen c.args.args.now)
      (c.are_for_marked.ensures.0 c.if-not-are_for_marked.false),
  c.in_default.ensures,
  c.in-Some-first_out_of_place.ensures,
)

pub returns-then-is_bad_drop : goal.returns-then-is_bad_drop
returns-then-is_bad_drop c = λ ps are. (
  for_marked (trees c.args.table.now) c.args.sides.now ps are c.args.set.now (map chosen c.args.args.now)
      (c.are_for_marked.ensures.0 c.if-not-are_for_marked.false),
  c.in_default-first_out_of_place.ensures,
  c.is_bad_drop.ensures.0 c.if-is_bad_drop.true,
)

pub returns-in-Some-first_not_decreasing : goal.returns-in-Some-first_not_decreasing
returns-in-Some-first_not_decreasing c = λ ps are.
    let ts = trees c.args.table.now in
    let sides = c.args.sides.now in
    let args = map chosen c.args.args.now in
    let drop = c.args.drop.now in
    let found = c.in-Some-first_not_decreasing.ensures in (
      for_marked ts sides ps are c.args.set.now args (c.are_for_marked.ensures.0 c.if-not-are_for_marked.false),
      c.in_default-first_out_of_place.ensures,
      λ bad. cc (c.is_bad_drop.ensures.1 bad, c.if-is_bad_drop.false),
      found.0,
      wrong_same ts sides ps are args drop c.in-Some-first_not_decreasing.pair found.1,
      λ m less there wrong. found.2 m less there (wrong_back ts sides ps are args drop m wrong),
    )

pub returns-in-None : goal.returns-in-None
returns-in-None c = λ ps are.
    let ts = trees c.args.table.now in
    let sides = c.args.sides.now in
    let args = map chosen c.args.args.now in
    projection_passed (system_data c.args.system.now).rules ps c.args.set.now args c.args.drop.now
    (for_marked ts sides ps are c.args.set.now args (c.are_for_marked.ensures.0 c.if-not-are_for_marked.false))
    c.in_default-first_out_of_place.ensures (λ bad. cc (c.is_bad_drop.ensures.1 bad, c.if-is_bad_drop.false))
    (λ n there. decreasing_same ts sides ps are args c.args.drop.now n (c.in-None.ensures n there))
