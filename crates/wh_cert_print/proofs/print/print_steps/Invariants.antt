use Rattle.std.proofs.Common.{drop}
use Rattle.wh_text.proofs.PrintLemmas.{Leaves}
use Rattle.wh_cert.specs.Text.{put_steps}
use Rattle.wh_cert_print.proofs.print.print_steps.Given as goal

-- the rest of the list is left to push
abbrev pub invariant-loop-step : goal.invariant-loop-step
invariant-loop-step l = Leaves l.initial.out l.out (put_steps (drop l.step-index l.steps)) (put_steps l.steps)
