use Rattle.std.proofs.Common.{◌<◌, ◌↔◌}
use Rattle.wh_system.specs.SystemView.{system_data}
use Rattle.wh_access.specs.Demands.{Demand}
use Rattle.wh_access.specs.Passing.{IsRead}
use Rattle.wh_access.specs.Tables.{InTables}
use Rattle.wh_access.proofs.CheckLemmas.{HoldBefore}
use Rattle.wh_access.proofs.FindLemmas.{AskedBefore}
use Rattle.wh_access.proofs.find.demands_of.Given as goal

abbrev pub invariant-loop-index : goal.invariant-loop-index
invariant-loop-index l = record {
  read : HoldBefore IsRead (system_data l.system).rules l.index;
  told : (d : Demand) → d.from < 256 → d.to < 256 → InTables l.demands d ↔ AskedBefore (system_data l.system).symbols (system_data l.system).rules l.index d;
}
