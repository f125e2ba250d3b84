use Rattle.wh_poly.specs.Arithmetic.{scale}
use Rattle.wh_poly.specs.Erase.{atoms}
use Rattle.wh_poly.specs.declared.polynomial.Monomial.{out-Monomial}
use Rattle.wh_poly_arithmetic.proofs.ProductWalk.{Rows}
use Rattle.wh_poly_arithmetic.proofs.scaling.sum_of_products.Given as goal

abbrev pub invariant-loop-j : goal.invariant-loop-j
invariant-loop-j l = Rows (scale (out-Monomial l.item).coefficient (atoms (out-Monomial l.item).atoms)) l.others l.total l.j

abbrev pub decreases-loop-j : goal.decreases-loop-j
decreases-loop-j l = l.j
