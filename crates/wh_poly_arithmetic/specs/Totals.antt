-- The sum that the code of sums of many polynomials has come to.
use Rattle.std.specs.Prelude.{ℕ, ◌≡◌, ◌+◌, ◌-◌, ◌≤◌, List, [], ◌∷◌, length, max, Option, None, Some}
use Rattle.wh_types.specs.Limits.{greatest_weight, deepest_value}
use Rattle.wh_poly.specs.Polynomials.{Polynomial, zero_poly, Ordered}
use Rattle.wh_poly.specs.Arithmetic.{sum_poly}
use Rattle.wh_poly.specs.Limits.{weight, nesting, Exceeds}
use Rattle.wh_poly.specs.declared.polynomial.Poly.{Poly}
use Rattle.wh_poly_arithmetic.specs.declared.totals.Total.{Total}
use Rattle.wh_poly.specs.Erase.{poly}

-- the parts, the last one first, and then q (ours)
abbrev pub sum_of_parts : Polynomial → List Poly → Polynomial
sum_of_parts q [] = q
sum_of_parts q (p ∷ ps) = sum_of_parts (sum_poly (poly p) q) ps

-- what has been added (ours)
abbrev pub total : Total → Polynomial
total t = sum_of_parts zero_poly t.parts.items

abbrev pub AllOrdered : List Poly → Type 0
AllOrdered [] = Unit {0}
AllOrdered (p ∷ ps) = Ordered (poly p) × AllOrdered ps

-- what the parts weigh, and how deep they nest (ours)
abbrev pub weight_of_parts : List Poly → ℕ
weight_of_parts [] = 0
weight_of_parts (p ∷ ps) = weight (poly p) + weight_of_parts ps

abbrev pub nesting_of_parts : List Poly → ℕ
nesting_of_parts [] = 0
nesting_of_parts (p ∷ ps) = max (nesting (poly p)) (nesting_of_parts ps)

-- where the rest of the weight is known, q and the parts leave it of the greatest weight, and none of them nests too
-- deep (ours)
abbrev pub Leaves : Option ℕ → Polynomial → List Poly → Type 0
Leaves None q ps = Unit {0}
Leaves (Some left) q ps =
    ((weight q + weight_of_parts ps) + left ≤ greatest_weight) × (nesting q ≤ deepest_value) × (nesting_of_parts ps ≤ deepest_value)

-- where the new rest of the weight is known, it is the old one without the weight of q, which does not nest too deep
-- (ours)
abbrev pub IsTakenFrom : Option ℕ → Polynomial → Option ℕ → Type 0
IsTakenFrom left q None = Unit {0}
IsTakenFrom None q (Some rest) = ⊥
IsTakenFrom (Some left) q (Some rest) = (weight q + rest ≡ left) × (nesting q ≤ deepest_value)

-- each part is in order, and what they leave is told (ours)
abbrev pub HasOrderedParts : Total → Type 0
HasOrderedParts t = AllOrdered t.parts.items × Leaves t.left zero_poly t.parts.items

-- the last part is added to p, which becomes q (ours)
abbrev pub TakesLast : (old new : Total) → (p q : Polynomial) → Type 0
TakesLast old new p q =
    (sum_poly p (total old) ≡ sum_poly q (total new)) × Ordered q × HasOrderedParts new × ((Exceeds p → ⊥) → Exceeds q → ⊥)
    × (length new.parts.items ≡ length old.parts.items - 1) × Leaves new.left q new.parts.items
