-- Monomial by monomial.
use Rattle.wh_poly.proofs.SumLaws.{normal_sum}
use Rattle.wh_poly.proofs.laws.sums_are_normal.Goals as goal

pub returns : goal.returns
returns c scope p q n m = normal_sum scope p q n m
