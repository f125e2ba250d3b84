use Rattle.wh_text.proofs.OneCut.{one_cut}
use Rattle.wh_text.proofs.laws.one_cut.Goals as goal

pub returns : goal.returns
returns c = one_cut
