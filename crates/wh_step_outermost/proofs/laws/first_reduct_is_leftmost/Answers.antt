use Rattle.wh_step_outermost.proofs.FirstSteps.{first_reduct, reduct_first}
use Rattle.wh_step_outermost.proofs.laws.first_reduct_is_leftmost.Goals as goal

pub returns : goal.returns
returns c S rules t u us well are = (first_reduct S well u us are, reduct_first S well u us are)
