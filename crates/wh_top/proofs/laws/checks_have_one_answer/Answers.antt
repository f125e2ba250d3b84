use Rattle.wh_top.proofs.OneAnswer.{one_answer}
use Rattle.wh_top.proofs.laws.checks_have_one_answer.Goals as goal

pub returns : goal.returns
returns c d ps bytes a b made first other = one_answer d ps bytes a b made first other
