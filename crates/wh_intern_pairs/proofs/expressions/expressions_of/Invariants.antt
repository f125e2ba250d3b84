use Rattle.std.proofs.Common.{◌≡◌, map, take}
use Rattle.wh_hopoly.specs.Erase.{expression}
use Rattle.wh_polycheck.specs.Sides.{side}
use Rattle.wh_intern.specs.TableTrees.{trees}
use Rattle.wh_intern.specs.Trees.{tree_at}
use Rattle.wh_intern_pairs.proofs.expressions.expressions_of.Given as goal

abbrev pub invariant-loop-number : goal.invariant-loop-number
invariant-loop-number l =
    map expression l.expressions.items ≡ map (λ n. side l.scope (tree_at (trees l.table) n)) (take l.number-index l.number-items)
