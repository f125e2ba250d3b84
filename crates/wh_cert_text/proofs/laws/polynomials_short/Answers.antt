use Rattle.wh_cert_text.proofs.TextLengths.{polys_short}
use Rattle.wh_cert_text.proofs.laws.polynomials_short.Goals as goal

pub returns : goal.returns
returns c = polys_short
