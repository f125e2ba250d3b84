use Rattle.wh_cert_upgrade.proofs.Texts.{is_short}
use Rattle.wh_cert_upgrade.proofs.laws.upgraded_is_short.Goals as goal

pub returns : goal.returns
returns c = is_short
