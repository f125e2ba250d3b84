use Rattle.wh_poly_guesses.specs.Tasks.{IsGuessOf}
use Rattle.wh_poly_climb.proofs.climbing.climb_from.Given as goal

abbrev pub invariant-rounds : goal.invariant-rounds
invariant-rounds l = IsGuessOf l.task l.guess
