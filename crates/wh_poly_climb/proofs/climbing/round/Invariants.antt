use Rattle.wh_poly_guesses.specs.Tasks.{IsGuessOf}
use Rattle.wh_poly_climb.proofs.climbing.round.Given as goal

abbrev pub invariant-loop-number : goal.invariant-loop-number
invariant-loop-number l = IsGuessOf l.task l.guess
