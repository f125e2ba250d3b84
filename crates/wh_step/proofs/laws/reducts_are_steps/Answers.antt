-- The list has a result for each redex, and a step at a place has one result.
use Rattle.std.proofs.Common.{ℕ, Option, List}
use Rattle.wh_step.proofs.Places.{step_at-step, step-step_at}
use Rattle.wh_step.proofs.ReductLemmas.{result_steps, step_listed}
use Rattle.wh_step.proofs.laws.reducts_are_steps.Goals as goal

pub returns : goal.returns
returns c S rules t u us well are = (
  λ listed. let (k, path, at) = result_steps are.redexes us are.results u listed in step_at-step at,
  λ step. let (k, path, at) = step-step_at step in step_listed S well are.redexes us are.results (record { rule = k; path = path }) (are.all k path u at) u at,
)
