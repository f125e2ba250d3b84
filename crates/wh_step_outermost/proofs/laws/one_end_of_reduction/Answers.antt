use Rattle.wh_step_outermost.proofs.Chains.{reduces_one}
use Rattle.wh_step_outermost.proofs.laws.one_end_of_reduction.Goals as goal

pub returns : goal.returns
returns c S rules t u v asked m n d e well x y = reduces_one S well asked t u v m n d e x y
