use Rattle.wh_cert_text.proofs.Whole.{no_proper_prefix}
use Rattle.wh_cert_text.proofs.laws.no_proper_prefix.Goals as goal

pub returns : goal.returns
returns c = no_proper_prefix
