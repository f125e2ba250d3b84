-- One step more than from the reducts.
use Rattle.std.proofs.Common.{suc}
use Rattle.wh_step.proofs.Walks.{bounded_by_next}
use Rattle.wh_step.specs.Step.{Step}
use Rattle.wh_step.proofs.laws.bounded_by_reducts.Goals as goal

pub returns : goal.returns
returns c rules t n h = (suc n, bounded_by_next (Step rules) t n h)
