use Rattle.std.proofs.Common.{take}
use Rattle.wh_terms.specs.Erase.{tms}
use Rattle.wh_terms.specs.Pattern.{Misses}
use Rattle.wh_match.proofs.seat.origin.Given as goal

abbrev pub invariant-loop-i : goal.invariant-loop-i
invariant-loop-i l = Misses l.number (tms (take l.i l.seat.args.now))
