use Rattle.wh_cert_term.proofs.ReadLaws.{one_text}
use Rattle.wh_cert_term.proofs.laws.one_term.Goals as goal

pub returns : goal.returns
returns c bytes t u x y = one_text bytes t u x y
