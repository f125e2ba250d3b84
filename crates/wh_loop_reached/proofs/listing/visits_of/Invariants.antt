use Rattle.std.proofs.Common.{◌≡◌, map}
use Rattle.wh_loop_reached.proofs.listing.visits_of.Given as goal

abbrev pub invariant-loop-entry : goal.invariant-loop-entry
invariant-loop-entry l = l.visits ≡ map (λ e. e.visit) l.yielded
