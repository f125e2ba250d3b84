-- First the reduction, then as many steps as are left.
use Rattle.wh_step.proofs.Walks.{endless_before}
use Rattle.wh_step.specs.Step.{Step}
use Rattle.wh_step.proofs.laws.unbounded_before.Goals as goal

pub returns : goal.returns
returns c rules t l w h = endless_before (Step rules) t l w h
