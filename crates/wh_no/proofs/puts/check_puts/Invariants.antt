-- The lines so far are right, and the entries are what they say.
use Rattle.std.proofs.Common.{map}
use Rattle.wh_cert.specs.Said.{said_put}
use Rattle.wh_system.specs.SystemView.{system_data}
use Rattle.wh_no.specs.Entry.{entry_puts}
use Rattle.wh_no.specs.Faults.{AreRightTo}
use Rattle.wh_no.proofs.puts.check_puts.Given as goal

abbrev pub invariant-loop-i : goal.invariant-loop-i
invariant-loop-i l = AreRightTo (system_data l.system) (map said_put l.puts) l.i (entry_puts l.entries.items)
