use Rattle.wh_cert_text.proofs.Whole.{one_place}
use Rattle.wh_cert_text.proofs.laws.one_place.Goals as goal

pub returns : goal.returns
returns c = one_place
