use Rattle.wh_step_laws.specs.Ranks.{rank_of}
use Rattle.wh_system.specs.SystemView.{system_data}
use Rattle.wh_access.specs.Passing.{Passes}
use Rattle.wh_access.proofs.CheckLemmas.{HoldBefore}
use Rattle.wh_access.proofs.check.check_ranks.Given as goal

abbrev pub invariant-loop-index : goal.invariant-loop-index
invariant-loop-index l = HoldBefore (Passes (system_data l.system).symbols (rank_of l.ranks)) (system_data l.system).rules l.index
