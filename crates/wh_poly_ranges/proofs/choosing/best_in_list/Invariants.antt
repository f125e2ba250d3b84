use Rattle.wh_poly_ranges.specs.Bounds.{IsBound}
use Rattle.wh_poly_ranges.proofs.choosing.best_in_list.Given as goal

abbrev pub invariant-loop-place : goal.invariant-loop-place
invariant-loop-place l = IsBound l.failure.task.now l.probe
