use Rattle.std.proofs.Common.{◌≡◌, ◌++◌, reverse}
use Rattle.wh_terms.specs.Erase.{tm}
use Rattle.wh_terms.specs.Tree.{head}
use Rattle.wh_pairs.specs.Spines.{spine_arguments}
use Rattle.wh_pairs_calls.specs.Views.{trees}
use Rattle.wh_pairs_calls.proofs.spine.spine_of.Given as goal

abbrev pub invariant-loop-head : goal.invariant-loop-head
invariant-loop-head l =
    (head (tm l.head) ≡ head (tm l.term))
    × (spine_arguments (tm l.term) ≡ spine_arguments (tm l.head) ++ reverse (trees l.arguments.items))
