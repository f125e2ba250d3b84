-- By recursion on both.
use Rattle.wh_poly.proofs.OrderLaws.{poly_reverse}
use Rattle.wh_poly.proofs.laws.comparing_is_reversed.Goals as goal

pub returns : goal.returns
returns c p q = poly_reverse p q
