-- Monomial by monomial.
use Rattle.wh_poly.proofs.SumLaws.{normal_multiply}
use Rattle.wh_poly.proofs.laws.products_are_normal.Goals as goal

pub returns : goal.returns
returns c scope p q n m = normal_multiply scope p q n m
