use Rattle.wh_cert_upgrade_laws.proofs.SameNodes.{as_small}
use Rattle.wh_cert_upgrade_laws.proofs.laws.upgraded_certificates_are_as_small.Goals as goal

pub returns : goal.returns
returns c = as_small
