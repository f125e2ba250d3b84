use Rattle.wh_poly_guesses.specs.Tasks.{IsGuessOf}
use Rattle.wh_poly_climb.proofs.climbing.step.Given as goal

abbrev pub invariant-loop-change : goal.invariant-loop-change
invariant-loop-change l = IsGuessOf l.task l.guess
