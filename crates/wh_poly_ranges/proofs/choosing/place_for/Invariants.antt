use Rattle.wh_poly_ranges.specs.Bounds.{IsBound}
use Rattle.wh_poly_ranges.proofs.choosing.place_for.Given as goal

abbrev pub invariant-loop-number : goal.invariant-loop-number
invariant-loop-number l = IsBound l.failure.task.now l.probe
