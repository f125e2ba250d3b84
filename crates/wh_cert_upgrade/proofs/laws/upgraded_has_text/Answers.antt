use Rattle.wh_cert_upgrade.proofs.Texts.{has_text}
use Rattle.wh_cert_upgrade.proofs.laws.upgraded_has_text.Goals as goal

pub returns : goal.returns
returns c = has_text
