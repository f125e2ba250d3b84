use Rattle.std.proofs.Common.{All, take}
use Rattle.wh_sat_listed.proofs.Shortness.{HasFew}
use Rattle.wh_sat_listed.proofs.solving.is_short.Given as goal

abbrev pub invariant-loop-entry : goal.invariant-loop-entry
invariant-loop-entry l = All (HasFew l.variables) (take l.entry-index l.entries)
