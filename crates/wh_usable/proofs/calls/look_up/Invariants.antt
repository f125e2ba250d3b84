use Rattle.wh_system.specs.SystemView.{system_data}
use Rattle.wh_usable.proofs.TableLemmas.{SaysBefore}
use Rattle.wh_usable.proofs.calls.look_up.Given as goal

abbrev pub invariant-loop-number : goal.invariant-loop-number
invariant-loop-number l = SaysBefore (system_data l.system).rules l.listed l.table l.number
