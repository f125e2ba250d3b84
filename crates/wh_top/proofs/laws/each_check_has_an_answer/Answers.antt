use Rattle.wh_top.proofs.SomeAnswer.{some_answer}
use Rattle.wh_top.proofs.laws.each_check_has_an_answer.Goals as goal

pub returns : goal.returns
returns c d ps bytes made within = some_answer d ps bytes made within
