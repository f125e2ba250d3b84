-- By recursion on the step.
use Rattle.wh_poly_meaning.proofs.Steps.{term_step_le}
use Rattle.wh_poly_meaning.proofs.terms.covered_steps_do_not_raise_values.Goals as goal

pub returns : goal.returns
returns c S rules symbols scope t u a free v w i n k p s mf mv = term_step_le S symbols i n free mf rules w k scope t u a s p v mv
