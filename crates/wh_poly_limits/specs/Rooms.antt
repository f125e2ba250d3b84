-- The room that a product of monomials has left for one more.
use Rattle.std.specs.Prelude.{ℕ, ◌≡◌, ◌+◌, ◌*◌, ◌≤◌, ◌<◌}
use Rattle.wh_types.specs.Limits.{coefficient_end, deepest_value}
use Rattle.wh_poly.specs.Limits.{weight_of_factors, nesting_of_factors}
use Rattle.wh_poly.specs.Erase.{atoms}
use Rattle.wh_poly_limits.specs.declared.room.Room.{Room}
use Rattle.wh_poly.specs.declared.polynomial.Monomial.{Monomial, out-Monomial}

-- with one more monomial the coefficient is multiplied and fits, and its factors are taken from what is left (ours)
pub record TakesIn (greatest coefficient left : ℕ) (m : Monomial) (room : Room) : Type 0 where
  pub multiplied : room.coefficient ≡ coefficient * (out-Monomial m).coefficient
  pub fitting : greatest * room.coefficient < coefficient_end
  pub weighed : weight_of_factors (atoms (out-Monomial m).atoms) + room.left ≡ left
  pub shallow : nesting_of_factors (atoms (out-Monomial m).atoms) ≤ deepest_value
