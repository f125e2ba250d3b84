-- Equal polynomials are the same tree.
use Rattle.std.proofs.Common.{subst, ◌≡◌, Equal}
use Rattle.wh_poly.specs.Polynomials.{compare_polynomials}
use Rattle.wh_poly.proofs.OrderLaws.{poly_equal, poly_same}
use Rattle.wh_poly.proofs.laws.equal_polynomials_compare_as_equal.Goals as goal

pub returns : goal.returns
returns c p q = (poly_equal p q, λ e. subst (λ q. compare_polynomials p q ≡ Equal) e (poly_same p))
