use Rattle.wh_answer_reader.proofs.ReadBack.{read_back}
use Rattle.wh_answer_reader.proofs.laws.read_back.Goals as goal

pub returns : goal.returns
returns c = read_back
