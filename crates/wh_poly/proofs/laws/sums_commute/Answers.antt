-- The two sums have the same coefficients.
use Rattle.wh_poly.proofs.CoefficientLaws.{sum_commutes}
use Rattle.wh_poly.proofs.laws.sums_commute.Goals as goal

pub returns : goal.returns
returns c scope p q n m = sum_commutes scope p q n m
