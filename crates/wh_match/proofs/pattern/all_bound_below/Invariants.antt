use Rattle.std.proofs.Common.{take}
use Rattle.wh_terms.specs.Erase.{tms}
use Rattle.wh_terms.specs.Pattern.{AllBoundBelow}
use Rattle.wh_match.proofs.pattern.all_bound_below.Given as goal

abbrev pub invariant-loop-item : goal.invariant-loop-item
invariant-loop-item l = AllBoundBelow l.binders (tms (take l.item-index l.items))
