use Rattle.wh_answer.proofs.SameAnswer.{one_answer}
use Rattle.wh_answer.proofs.laws.one_answer.Goals as goal

pub returns : goal.returns
returns c = one_answer
