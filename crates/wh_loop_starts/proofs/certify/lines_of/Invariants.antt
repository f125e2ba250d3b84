-- The lines so far.
use Rattle.std.proofs.Common.{◌≡◌, map, take}
use Rattle.wh_cert.specs.Said.{said_put}
use Rattle.wh_system.specs.SystemView.{system_data}
use Rattle.wh_no.specs.Entry.{entry_puts}
use Rattle.wh_loop_starts.specs.Lines.{line_of}
use Rattle.wh_loop_starts.proofs.certify.lines_of.Given as goal

abbrev pub invariant-loop-entry : goal.invariant-loop-entry
invariant-loop-entry l = map said_put l.lines ≡ map (line_of (system_data l.system)) (entry_puts (take l.entry-index l.entries))
