use Rattle.std.proofs.Common.{◌≡◌, take}
use Rattle.wh_step_outermost.proofs.searching.path_of.Given as goal

abbrev pub invariant-loop-step : goal.invariant-loop-step
invariant-loop-step l = l.path ≡ take l.step-index l.steps
