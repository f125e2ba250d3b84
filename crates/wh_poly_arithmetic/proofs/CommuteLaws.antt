-- The product does not depend on which of two polynomials in order is on the left.
use Rattle.std.proofs.Common.{◌≡◌, ℕ, ◌*◌, ◌≤◌, refl, ap, ap₂, ◌∙◌, arith, mul_comm}
use Rattle.wh_poly.specs.Polynomials.{Polynomial, zero_poly, plus, Factors, OrderedFactors, Ordered}
use Rattle.wh_poly.specs.Arithmetic.{add_monomial, sum_poly, join_factors, scale, multiply}
use Rattle.wh_poly.proofs.CoefficientLaws.{coefficient_add, coefficient_sum}
use Rattle.wh_poly.proofs.SumLaws.{one_product}
use Rattle.wh_poly.proofs.OrderedLaws.{ordered_add, ordered_sum, ordered_joins, ordered_scale, ordered_multiply, equal_ordered}
use Rattle.wh_poly_arithmetic.proofs.ScaleLaws.{joins_commute}

by_nothing : (p : Polynomial) → multiply p zero_poly ≡ zero_poly
by_nothing zero_poly = refl
by_nothing (plus c us p) = by_nothing p

-- a monomial with a row behind it, added to two others
exchanged : (c : ℕ) (us : Factors) (p q r : Polynomial) → 1 ≤ c → OrderedFactors us → Ordered p → Ordered q → Ordered r
    → sum_poly (add_monomial c us p) (sum_poly q r) ≡ sum_poly (add_monomial c us q) (sum_poly p r)
exchanged c us p q r l n a b d =
    equal_ordered (sum_poly (add_monomial c us p) (sum_poly q r)) (sum_poly (add_monomial c us q) (sum_poly p r))
    (ordered_sum (add_monomial c us p) (sum_poly q r) (ordered_add c us p l n a) (ordered_sum q r b d)) (ordered_sum (add_monomial c us q) (sum_poly p r) (ordered_add c us q l n b) (ordered_sum p r a d))
    (λ ws. let e = coefficient_sum ws (add_monomial c us p) (sum_poly q r) in let f = coefficient_sum ws (add_monomial c us q) (sum_poly p r) in let g = coefficient_sum ws q r in
    let h = coefficient_sum ws p r in let i = coefficient_add ws c us p in let j = coefficient_add ws c us q in omega (arith, e, f, g, h, i, j))

-- a column of a product
column : (p : Polynomial) (d : ℕ) (vs : Factors) (q : Polynomial) → Ordered p → Ordered (plus d vs q) → multiply p (plus d vs q) ≡ sum_poly (scale d vs p) (multiply p q)
column zero_poly d vs q n m = refl
column (plus c us p) d vs q n m =
    ap (sum_poly (add_monomial (c * d) (join_factors us vs) (scale c us q))) (column p d vs q n.3 m)
    ∙ exchanged (c * d) (join_factors us vs) (scale c us q) (scale d vs p) (multiply p q) (one_product c d n.0 m.0) (ordered_joins us vs m.1)
    (ordered_scale c us q n.0 m.3) (ordered_scale d vs p m.0 n.3) (ordered_multiply p q n.3 m.3)
    ∙ ap₂ (λ e ws. sum_poly (add_monomial e ws (scale d vs p)) (sum_poly (scale c us q) (multiply p q))) (mul_comm c d) (joins_commute us vs n.1 m.1)

pub multiply_commutes : (p q : Polynomial) → Ordered p → Ordered q → multiply p q ≡ multiply q p
multiply_commutes p zero_poly n m = by_nothing p
multiply_commutes p (plus d vs q) n m = column p d vs q n m ∙ ap (sum_poly (scale d vs p)) (multiply_commutes p q n m.3)
