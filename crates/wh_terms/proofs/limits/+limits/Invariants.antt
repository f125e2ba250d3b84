use Rattle.std.proofs.Common.{Some, take}
use Rattle.wh_terms.specs.Budget.{AllKeep, Left}
use Rattle.wh_terms.specs.Erase.{tms}
use Rattle.wh_terms.specs.Measures.{sizes}
use Rattle.wh_terms.proofs.limits.+limits.Given as goal

abbrev pub invariant-spend_all-loop-item : goal.invariant-spend_all-loop-item
invariant-spend_all-loop-item l =
    let passed = tms (take l.item-index l.item-items) in
    Left l.room (sizes passed) (AllKeep l.low l.room passed) (Some l.left)
