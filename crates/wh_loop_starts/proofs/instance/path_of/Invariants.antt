-- The path so far.
use Rattle.std.proofs.Common.{◌≡◌, take}
use Rattle.wh_loop_starts.proofs.instance.path_of.Given as goal

abbrev pub invariant-loop-step : goal.invariant-loop-step
invariant-loop-step l = l.path ≡ take l.step-index l.steps
