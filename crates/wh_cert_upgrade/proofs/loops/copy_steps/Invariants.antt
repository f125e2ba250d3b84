use Rattle.std.proofs.Common.{◌≡◌, take}
use Rattle.wh_cert_upgrade.proofs.loops.copy_steps.Given as goal

abbrev pub invariant-loop-step : goal.invariant-loop-step
invariant-loop-step l = l.copies ≡ take l.step-index l.steps
