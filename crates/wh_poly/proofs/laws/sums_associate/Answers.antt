-- The two sums have the same coefficients.
use Rattle.wh_poly.proofs.CoefficientLaws.{sum_associates}
use Rattle.wh_poly.proofs.laws.sums_associate.Goals as goal

pub returns : goal.returns
returns c scope p q r n m o = sum_associates scope p q r n m o
