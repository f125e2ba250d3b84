-- On terms with loose variables too.
use Rattle.wh_step.proofs.RootLaws.{step_one}
use Rattle.wh_step.proofs.laws.one_result.Goals as goal

pub returns : goal.returns
returns c S rules k path t u v w a b = step_one S w a b
