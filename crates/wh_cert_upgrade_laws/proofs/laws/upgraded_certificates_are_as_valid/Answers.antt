use Rattle.wh_cert_upgrade_laws.proofs.SameNodes.{as_valid}
use Rattle.wh_cert_upgrade_laws.proofs.laws.upgraded_certificates_are_as_valid.Goals as goal

pub returns : goal.returns
returns c = as_valid
