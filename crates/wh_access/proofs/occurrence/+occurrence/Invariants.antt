use Rattle.std.proofs.Common.{take}
use Rattle.wh_terms.specs.Erase.{tms}
use Rattle.wh_terms.specs.Sight.{OccursIn}
use Rattle.wh_access.proofs.occurrence.+occurrence.Given as goal

abbrev pub invariant-occurs_in-loop-item : goal.invariant-occurs_in-loop-item
invariant-occurs_in-loop-item l = OccursIn l.meta (tms (take l.item-index l.item-items)) → ⊥
