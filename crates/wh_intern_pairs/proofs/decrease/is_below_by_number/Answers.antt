-- What is told of the entry holds of the pair.
use Rattle.std.proofs.Common.{IsTrue, map}
use Rattle.wh_subterm.specs.SubtermRows.{chosen}
use Rattle.wh_intern.specs.TableTrees.{trees}
use Rattle.wh_intern_pairs.proofs.RelationByNumber.{below_same, numbers_below}
use Rattle.wh_intern_pairs.proofs.decrease.is_below_by_number.Goals as goal

pub is_decreasing-requires-clause-pair : goal.is_decreasing-requires-clause-pair
is_decreasing-requires-clause-pair c =
    let (p, are) = c.requires.sides in numbers_below (trees c.args.table.now) c.args.sides.now p are

pub returns : goal.returns
returns c = λ p are.
    below_same (trees c.args.table.now) c.args.sides.now p (map chosen c.args.args.now) (IsTrue c.is_decreasing.result) are c.is_decreasing.ensures.decreasing
