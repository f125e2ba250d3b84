use Rattle.wh_cert_text.proofs.Whole.{one_certificate}
use Rattle.wh_cert_text.proofs.laws.one_certificate.Goals as goal

pub returns : goal.returns
returns c = one_certificate
