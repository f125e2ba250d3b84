use Rattle.std.proofs.Common.{◌≡◌, take}
use Rattle.wh_order_trees.proofs.TreeLemmas.{weight, weights}
use Rattle.wh_order_known.specs.Plain.{plains}
use Rattle.wh_order_known.proofs.copies.+comparing.Given as goal

abbrev pub decreases-are_alike : goal.decreases-are_alike
decreases-are_alike l = weight l.a.now

abbrev pub decreases-are_all_alike : goal.decreases-are_all_alike
decreases-are_all_alike l = weights l.items.now

abbrev pub invariant-are_all_alike-loop-i : goal.invariant-are_all_alike-loop-i
invariant-are_all_alike-loop-i l = plains (take l.i l.items) ≡ plains (take l.i l.others)
