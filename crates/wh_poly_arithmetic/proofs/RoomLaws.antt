-- What a product that grows may still take in.
use Rattle.std.proofs.Common.{◌≡◌, ℕ, ◌+◌, ◌-◌, ◌*◌, ◌<◌, ◌≤◌, ◌^◌, inl, inr, List, [], ◌∷◌, ◌++◌, length, take, get_or, refl, ap, ap₂, sym, subst, ◌∙◌, arith, one-mul, mul-one, mul-le-mul, mul_comm, div-mul-le_self, le_refl, ◌/◌}
use Rattle.std.specs.Prelude.{None, Some, Result, Err}
use Rattle.wh_types.specs.Outcome.{IfBecause}
use Rattle.wh_types.specs.declared.want.Or.{Or}
use Rattle.wh_types.specs.declared.want.Or.TheVariants.{Because}
use Rattle.wh_poly.specs.Excesses.{ExceedsAs}
use Rattle.wh_poly.specs.declared.excess.Excess.{Excess}
use Rattle.wh_poly.specs.declared.excess.Excess.TheVariants as excess
use Rattle.wh_poly.specs.Polynomials.{Polynomial, zero_poly, plus, Factors, no_factors, times, no_arguments, OrderedFactors, Ordered}
use Rattle.wh_poly.specs.Arithmetic.{join_factors, multiply, constant, atom, followed_by}
use Rattle.wh_poly.specs.Limits.{weight, weight_of_factors, nesting, nesting_of_factors, Exceeds}
use Rattle.wh_poly.specs.Merges.{joined}
use Rattle.wh_poly_arithmetic.specs.Growing.{grown, first_value, HasRoom, LeavesRoom, HasCoefficientsUpTo, monomial_count}
use Rattle.wh_poly.specs.Erase.{poly, atoms, polys, factors, list, monomials, sum_of, product_of}
use Rattle.wh_poly_arithmetic.specs.declared.growing.Growing.{Growing}
use Rattle.wh_poly.specs.declared.polynomial.Atoms.{Atoms}
use Rattle.wh_poly.specs.declared.polynomial.Poly.{Poly}
use Rattle.wh_poly.specs.declared.polynomial.Monomial.{Monomial, out-Monomial}
use Rattle.wh_poly.specs.declared.polynomial.Atom.{Atom, out-Atom}
use Rattle.wh_poly.proofs.Lists.{poly_is, atoms_is, no_arguments_left}
use Rattle.wh_poly.proofs.Pushes.{sum_one_more}
use Rattle.wh_poly.proofs.SumLaws.{one_product}
use Rattle.wh_poly_arithmetic.proofs.CommuteLaws.{multiply_commutes}
use Rattle.wh_poly.proofs.GrowingLaws.{joined_append, joined_by, joined_same, joined_ordered, weight_joins, nesting_joins}
use Rattle.wh_poly_arithmetic.proofs.ScaleLaws.{one, multiply_twice, multiply_by_one, one_multiplied, up_to_multiply, up_to_fits, light_multiply, shallow_multiply}

room_within : (p : Polynomial) (g c : ℕ) (us : Factors) (left : ℕ) → OrderedFactors us → LeavesRoom p g c us left → Exceeds (multiply p (one c us)) → ⊥
room_within p g c us left n h (inl o) = up_to_fits (g * c) (multiply p (one c us)) (up_to_multiply g p c us n h.ordered h.up_to) h.fitting o
room_within p g c us left n h (inr (inl o)) =
    let l = light_multiply p c us in
    let k : weight_of_factors us ≤ weight_of_factors us + left = omega arith in
    let m : monomial_count p * weight_of_factors us ≤ monomial_count p * (weight_of_factors us + left) = mul-le-mul (le_refl (monomial_count p)) k in
    let w = h.light in omega (arith, l, m, w, o)
room_within p g c us left n h (inr (inr o)) = let l = shallow_multiply p c us in let a = h.first_shallow in let b = h.shallow in omega (arith, l, a, b, o)

pub room_is_within : (g : Growing) → HasRoom g → Exceeds (grown g) → ⊥
room_is_within g h e = room_within (first_value g.first) g.greatest g.coefficient (joined (factors g.factors)) g.left (joined_ordered (factors g.factors)) h e

-- one more monomial, with the factors vs
taken_in_as : (p : Polynomial) (greatest c d e left rest : ℕ) (us new : List Atom) (vs : Factors) → LeavesRoom p greatest c (joined us) left → 1 ≤ d → OrderedFactors vs → joined new ≡ join_factors (joined us) vs
    → e ≡ c * d → greatest * e < 2 ^ 128 → weight_of_factors vs + rest ≡ left → nesting_of_factors vs ≤ 400
    → (multiply p (one e (joined new)) ≡ multiply (multiply p (one c (joined us))) (one d vs)) × LeavesRoom p greatest e (joined new) rest
taken_in_as p greatest c d e left rest us new vs h l o all k b w n = (
  ap₂ (λ c us. multiply p (one c us)) k all ∙ sym (multiply_twice p c d (joined us) vs h.ordered h.positive l (joined_ordered us) o),
  record {
    ordered = h.ordered;
    positive = subst (λ n. 1 ≤ n) (sym k) (one_product c d h.positive l);
    up_to = h.up_to;
    fitting = b;
    light = subst (λ n. weight p + monomial_count p * n ≤ 65536) (sym heavier) h.light;
    first_shallow = h.first_shallow;
    shallow = (let z = ap nesting_of_factors all in let y = nesting_joins (joined us) vs in let m = h.shallow in omega (arith, z, y, n, m));
  },
)
  where
    heavier : weight_of_factors (joined new) + rest ≡ weight_of_factors (joined us) + left
    heavier = let z = ap weight_of_factors all in let y = weight_joins (joined us) vs in omega (arith, z, y, w)

pub taken_in : (p : Polynomial) (greatest c d e left rest : ℕ) (us vs new : Atoms) → LeavesRoom p greatest c (joined (factors us)) left → 1 ≤ d → OrderedFactors (atoms vs)
    → product_of (factors new) ≡ product_of (factors us ++ factors vs)
    → e ≡ c * d → greatest * e < 2 ^ 128 → weight_of_factors (atoms vs) + rest ≡ left → nesting_of_factors (atoms vs) ≤ 400
    → (multiply p (one e (joined (factors new))) ≡ multiply (multiply p (one c (joined (factors us)))) (one d (atoms vs))) × LeavesRoom p greatest e (joined (factors new)) rest
taken_in p greatest c d e left rest us vs new h l o f k b w n = taken_in_as p greatest c d e left rest (factors us) (factors new) (atoms vs) h l o
    (joined_by (factors new) (factors us ++ factors vs) f ∙ joined_append (factors us) (factors vs)
    ∙ ap (join_factors (joined (factors us))) (joined_same (factors vs) (subst OrderedFactors (atoms_is vs) o) ∙ sym (atoms_is vs))) k b w n

-- one more variable without arguments
pub variable_taken_in : (p : Polynomial) (greatest c left x : ℕ) (us new : List Atom) (u : Atom) → LeavesRoom p greatest c (joined us) left → 1 ≤ left → new ≡ us ++ u ∷ []
    → (out-Atom u).head ≡ x → polys (out-Atom u).args ≡ no_arguments
    → (multiply p (one c (joined new)) ≡ multiply (multiply p (one c (joined us))) (atom x no_arguments)) × LeavesRoom p greatest c (joined new) (left - 1)
variable_taken_in p greatest c left x us new u h l f ex ep = taken_in_as p greatest c 1 c left (left - 1) us new (times x no_arguments no_factors) h (omega arith) (tt, tt)
    (ap joined f ∙ joined_append us (u ∷ []) ∙ ap (join_factors (joined us)) (ap₂ (λ x ps. times x ps no_factors) ex ep)) (sym (mul-one c)) h.fitting (omega (arith, l)) (omega arith)

-- a monomial that is a variable without arguments
only_factor : (us : Atoms) (xs : List Atom) (u : Atom) → xs ≡ factors us → length xs ≡ 1 → u ≡ get_or xs 0 u → atoms us ≡ times (out-Atom u).head (polys (out-Atom u).args) no_factors
only_factor us [] u e l h = absurd (omega (arith, l))
only_factor us (x ∷ []) u e l h = atoms_is us ∙ ap product_of (sym e) ∙ ap (λ x. times (out-Atom x).head (polys (out-Atom x).args) no_factors) (sym h)
only_factor us (x ∷ y ∷ xs) u e l h = absurd (omega (arith, l))

pub only_variable : (c : ℕ) (us : Atoms) (xs : List Atom) (u : Atom) (ys : List Poly) → c ≡ 1 → xs ≡ factors us → length xs ≡ 1 → u ≡ get_or xs 0 u → ys ≡ list (out-Atom u).args → length ys ≤ 0
    → plus c (atoms us) zero_poly ≡ atom (out-Atom u).head no_arguments
only_variable c us xs u ys k e l h f n =
    ap₂ (λ c us. plus c us zero_poly) k (only_factor us xs u e l h ∙ ap (λ ps. times (out-Atom u).head ps no_factors) (no_arguments_left (out-Atom u).args ys f n))

-- no monomial yet
pub begins : (p : Polynomial) (greatest left : ℕ) (us : List _) → Ordered p → (Exceeds p → ⊥) → HasCoefficientsUpTo greatest p → greatest < 2 ^ 128 → weight p + monomial_count p * left ≤ 65536 → us ≡ []
    → (multiply p (one 1 (joined us)) ≡ p) × LeavesRoom p greatest 1 (joined us) left
begins p greatest left us o n u b l e = (
  ap (λ us. multiply p (one 1 (joined us))) e ∙ multiply_by_one p o,
  subst (λ us. LeavesRoom p greatest 1 (joined us) left) (sym e) (record {
    ordered = o;
    positive = omega arith;
    up_to = u;
    fitting = (let z = mul-one greatest in omega (arith, z, b));
    light = (let z : 0 + left ≡ left = omega arith in subst (λ n. weight p + monomial_count p * n ≤ 65536) (sym z) l);
    first_shallow = (let f : 400 < nesting p → ⊥ = λ h. n (inr (inr h)) in omega (arith, f));
    shallow = omega arith;
  }),
)

pub starts : (c : ℕ) (us : List _) → 1 ≤ c → c < 2 ^ 128 → us ≡ [] → (multiply (constant 1) (one c (joined us)) ≡ constant c) × LeavesRoom (constant 1) 1 c (joined us) 65535
starts c us l b e = (
  ap (λ us. multiply (constant 1) (one c (joined us))) e ∙ one_multiplied c no_factors,
  subst (λ us. LeavesRoom (constant 1) 1 c (joined us) 65535) (sym e) (record {
    ordered = (omega arith, tt, tt, tt);
    positive = l;
    up_to = (omega arith, tt);
    fitting = (let z = one-mul c in omega (arith, z, b));
    light = omega arith;
    first_shallow = omega arith;
    shallow = omega arith;
  }),
)

-- the product of nothing
nothing_joined : (xs us : List Atom) → xs ≡ us → length xs ≤ 0 → joined us ≡ no_factors
nothing_joined [] us e l = ap joined (sym e)
nothing_joined (x ∷ xs) us e l = absurd (omega (arith, l))

pub grown_one : (g : Growing) (xs : List Atom) → g.first ≡ None → g.coefficient ≡ 1 → xs ≡ factors g.factors → length xs ≤ 0 → grown g ≡ constant 1
grown_one g xs e k f l =
    ap₂ (λ first c. multiply (first_value first) (one c (joined (factors g.factors)))) e k ∙ ap (λ us. multiply (constant 1) (one 1 us)) (nothing_joined xs (factors g.factors) f l)
    ∙ one_multiplied 1 no_factors

pub times_one : (p q : Polynomial) → Ordered q → p ≡ constant 1 → multiply p q ≡ q
times_one p q o e = ap (λ p. multiply p q) e ∙ multiply_commutes (constant 1) q (omega arith, tt, tt, tt) o ∙ multiply_by_one q o

-- the monomial as a polynomial is in order
pub last_ordered : (c : ℕ) (us : List _) (p : Polynomial) → 1 ≤ c → p ≡ one c (joined us) → Ordered p
last_ordered c us p l e = subst Ordered (sym e) (l, joined_ordered us, tt, tt)

-- the greatest coefficient so far
up_to_more : (m n : ℕ) (p : Polynomial) → m ≤ n → HasCoefficientsUpTo m p → HasCoefficientsUpTo n p
up_to_more m n zero_poly l h = tt
up_to_more m n (plus c us p) l h = (omega (arith, l, h.0), up_to_more m n p l h.1)

up_to_both : (n : ℕ) (p q : Polynomial) → HasCoefficientsUpTo n p → HasCoefficientsUpTo n q → HasCoefficientsUpTo n (followed_by p q)
up_to_both n zero_poly q h k = k
up_to_both n (plus c us p) q h k = (h.0, up_to_both n p q h.1 k)

pub up_to_next : (xs : List Monomial) (i : ℕ) (x : Monomial) (m n : ℕ) → i < length xs → x ≡ get_or xs i x → HasCoefficientsUpTo m (sum_of (take i xs)) → m ≤ n → (out-Monomial x).coefficient ≤ n
    → HasCoefficientsUpTo n (sum_of (take (i + 1) xs))
up_to_next xs i x m n l e h k f = subst (HasCoefficientsUpTo n) (sym (sum_one_more xs i x l e)) (up_to_both n (sum_of (take i xs)) _ (up_to_more m n (sum_of (take i xs)) k h) (f, tt))

-- as many monomials as items
counted : (xs : List Monomial) → monomial_count (sum_of xs) ≡ length xs
counted [] = refl
counted (x ∷ xs) = let r = counted xs in omega (arith, r)

pub count_is : (p : Poly) (xs : List Monomial) → xs ≡ monomials p → monomial_count (poly p) ≡ length xs
count_is p xs e = ap monomial_count (poly_is p ∙ ap sum_of (sym e)) ∙ counted xs

-- what is left is shared by the monomials
pub left_to_none : (w n left : ℕ) → n ≡ 0 → w + left ≡ 65536 → w + n * left ≤ 65536
left_to_none w n left e k = subst (λ n. w + n * left ≤ 65536) (sym e) (omega (arith, k))

pub left_to_each : (w n m left : ℕ) → n ≡ m → w + left ≡ 65536 → w + n * (left / m) ≤ 65536
left_to_each w n m left e k = subst (λ n. w + n * (left / m) ≤ 65536) (sym e) (let d : left / m * m ≤ left = div-mul-le_self left m in let c = mul_comm m (left / m) in omega (arith, d, c, k))

-- the product as it ends
pub ends_with_one : (p q : Polynomial) (c : ℕ) (xs us : List _) → Ordered q → p ≡ q → c ≡ 1 → xs ≡ us → length xs ≤ 0 → p ≡ multiply q (one c (joined us))
ends_with_one p q c [] us o e k f l = e ∙ sym (ap₂ (λ c us. multiply q (one c (joined us))) k (sym f) ∙ multiply_by_one q o)
ends_with_one p q c (x ∷ xs) us o e k f l = absurd (omega (arith, l))

pub because_is : {T E : Type 0} (s : Result T (Or E)) (e : E) (P : E → Type 0) → s ≡ Err (Because e) → IfBecause s P → P e
because_is s e P k h = subst (λ s. IfBecause s P) k h

exceeds : (e : Excess) (w : Polynomial) → ExceedsAs e w → Exceeds w
exceeds excess.Overflow w h = inl h
exceeds excess.TooLarge w h = inr h

pub last_product_fits : (g : Growing) (p : Poly) (q : Polynomial) (e : Excess) → HasRoom g → g.first ≡ Some p → q ≡ one g.coefficient (joined (factors g.factors)) → ExceedsAs e (multiply (poly p) q) → ⊥
last_product_fits g p q e h f k x = room_is_within g h (exceeds e (grown g) (subst (ExceedsAs e) (ap₂ multiply (sym (ap first_value f)) k) x))
