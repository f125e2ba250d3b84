use Rattle.wh_poly_guesses.specs.Tasks.{IsGuessOf}
use Rattle.wh_poly_climb.proofs.climbing.renew.Given as goal

abbrev pub invariant-loop-condition : goal.invariant-loop-condition
invariant-loop-condition l = IsGuessOf l.task l.guess
