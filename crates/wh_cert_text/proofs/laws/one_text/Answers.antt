use Rattle.wh_cert_text.proofs.Whole.{one_text}
use Rattle.wh_cert_text.proofs.laws.one_text.Goals as goal

pub returns : goal.returns
returns c = one_text
