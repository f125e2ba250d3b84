-- By recursion on all three.
use Rattle.wh_poly.proofs.OrderLaws.{poly_between}
use Rattle.wh_poly.proofs.laws.comparing_is_transitive.Goals as goal

pub returns : goal.returns
returns c p q r h k = (poly_between p q r).less h k
