use Rattle.std.proofs.Common.{take}
use Rattle.wh_terms.specs.Erase.{tms}
use Rattle.wh_terms.specs.Pattern.{Misses}
use Rattle.wh_match.proofs.pattern.misses.Given as goal

abbrev pub invariant-loop-item : goal.invariant-loop-item
invariant-loop-item l = Misses l.number (tms (take l.item-index l.items))
