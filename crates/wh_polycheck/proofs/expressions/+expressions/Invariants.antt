use Rattle.std.proofs.Common.{◌≡◌, take}
use Rattle.wh_terms.specs.Erase.{tms}
use Rattle.wh_hopoly.specs.Erase.{expression}
use Rattle.wh_hopoly.specs.Evaluation.{var}
use Rattle.wh_polycheck.specs.Sides.{side_applied}
use Rattle.wh_polycheck.proofs.expressions.+expressions.Given as goal

abbrev pub invariant-meta_applied-loop-item : goal.invariant-meta_applied-loop-item
invariant-meta_applied-loop-item l = expression l.whole ≡ side_applied l.scope (var l.variable) (tms (take l.item-index l.item-items))
