use Rattle.wh_poly.specs.Arithmetic.{multiply}
use Rattle.wh_poly.specs.Erase.{poly}
use Rattle.wh_poly_arithmetic.proofs.ProductWalk.{Rows}
use Rattle.wh_poly_arithmetic.proofs.products.product_by_rows.Given as goal

abbrev pub invariant-loop-i : goal.invariant-loop-i
invariant-loop-i l = Rows (λ p. multiply p (poly l.b)) l.items l.total l.i

abbrev pub decreases-loop-i : goal.decreases-loop-i
decreases-loop-i l = l.i
