use Rattle.std.proofs.Common.{◌≡◌, ◌+◌, ◌*◌, take}
use Rattle.wh_hopoly.specs.Erase.{expression}
use Rattle.wh_hopoly.specs.Evaluation.{var}
use Rattle.wh_polycheck.specs.Sides.{side_applied}
use Rattle.wh_intern.specs.TableTrees.{trees}
use Rattle.wh_intern.specs.Trees.{trees_at}
use Rattle.wh_intern_pairs.proofs.expressions.+expressions.Given as goal

abbrev pub decreases-expression_of : goal.decreases-expression_of
decreases-expression_of l = 2 * l.number + 1

abbrev pub decreases-meta_applied : goal.decreases-meta_applied
decreases-meta_applied l = 2 * l.above

abbrev pub invariant-meta_applied-loop-number : goal.invariant-meta_applied-loop-number
invariant-meta_applied-loop-number l =
    expression l.whole ≡ side_applied l.scope (var l.variable) (trees_at (trees l.table) (take l.number-index l.numbers))
