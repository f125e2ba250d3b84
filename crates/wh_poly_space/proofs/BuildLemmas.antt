-- Sums, arguments and factors, as they are made item by item.
use Rattle.std.specs.declared.alloc.AllocError.{AllocError}
use Rattle.std.proofs.Common.{Result, Ok, Err, IfOk, ◌≡◌, ℕ, zero, suc, ◌+◌, ◌<◌, ◌≤◌, Bool, true, false, cond, List, [], ◌∷◌, ◌++◌, length, drop, get_or, refl, ap, ap₂, sym, ◌∙◌, arith}
use Rattle.wh_types.specs.Ty.{Ty, sort, ◌⇒◌}
use Rattle.wh_types.specs.Erase.{ty, tys}
use Rattle.wh_types.specs.declared.simple_type.SimpleType.{SimpleType}
use Rattle.wh_poly.specs.Polynomials.{Polynomial, zero_poly, plus, no_factors, times, Arguments, no_arguments, argument}
use Rattle.wh_poly.specs.Arithmetic.{followed_by}
use Rattle.wh_poly.specs.Erase.{poly, atoms, polys, monomials, factors, list, sum_of, product_of, arguments_of}
use Rattle.wh_poly.specs.declared.polynomial.Poly.{Poly}
use Rattle.wh_poly.specs.declared.polynomial.Polys.{Polys}
use Rattle.wh_poly.specs.declared.polynomial.Atoms.{Atoms}
use Rattle.wh_poly.specs.declared.polynomial.Atom.{Atom, out-Atom}
use Rattle.wh_poly.specs.declared.polynomial.Monomial.{Monomial, out-Monomial}
use Rattle.wh_poly.proofs.Lists.{poly_is, atoms_is, polys_is}
use Rattle.wh_poly.proofs.Pushes.{arguments_followed_by, sum_of_append, arguments_of_append}
use Rattle.wh_poly.proofs.AddedLaws.{followed_assoc, followed_by_none}
use Rattle.wh_poly.proofs.Walks.{drop_next}
use Rattle.wh_poly_space.specs.Space.{is_sort, variables_where, sum_of_variables, filled}

-- arguments for the rest of a type are still to be made

pub filled_more : (p : Polynomial) (whole : Arguments) (out new : List Poly) (q : Poly) (A B : Ty) → new ≡ out ++ q ∷ []
    → poly q ≡ cond (is_sort A) p zero_poly → arguments_followed_by (arguments_of out) (filled p (A ⇒ B)) ≡ whole
    → arguments_followed_by (arguments_of new) (filled p B) ≡ whole
filled_more p whole out new q A B pushed is before =
    ap (λ l. arguments_followed_by (arguments_of l) (filled p B)) pushed
    ∙ ap (λ ps. arguments_followed_by ps (filled p B)) (arguments_of_append out (q ∷ []))
    ∙ followed_assoc (arguments_of out) (argument (poly q) no_arguments) (filled p B)
    ∙ ap (λ r. arguments_followed_by (arguments_of out) (argument r (filled p B))) is
    ∙ before

pub filled_ends : (p : Polynomial) (whole : Arguments) (out : Polys) (A : Ty) (s : ℕ) → A ≡ sort s
    → arguments_followed_by (arguments_of (list out)) (filled p A) ≡ whole → polys out ≡ whole
filled_ends p whole out A s is before =
    polys_is out ∙ sym (followed_by_none (arguments_of (list out)))
    ∙ ap (λ T. arguments_followed_by (arguments_of (list out)) (filled p T)) (sym is) ∙ before

-- the sum of the variables of a sort, the rest of the scope still to come

pub sum_assoc : (p q r : Polynomial) → followed_by (followed_by p q) r ≡ followed_by p (followed_by q r)
sum_assoc zero_poly q r = refl
sum_assoc (plus c us p) q r = ap (plus c us) (sum_assoc p q r)

pub sum_ends : (p : Polynomial) → followed_by p zero_poly ≡ p
sum_ends zero_poly = refl
sum_ends (plus c us p) = ap (plus c us) (sum_ends p)

abbrev pub left_over : ℕ → List SimpleType → Polynomial
left_over i rest = sum_of_variables (variables_where is_sort i (tys rest))

sorts_next : (i : ℕ) (k : SimpleType) (rest : List SimpleType) (b : Bool) → is_sort (ty k) ≡ b
    → left_over i (k ∷ rest) ≡ cond b (plus 1 (times i no_arguments no_factors) (left_over (suc i) rest)) (left_over (suc i) rest)
sorts_next i k rest true is =
    ap (λ (b : Bool). sum_of_variables (cond b (i ∷ variables_where is_sort (suc i) (tys rest)) (variables_where is_sort (suc i) (tys rest)))) is
sorts_next i k rest false is =
    ap (λ (b : Bool). sum_of_variables (cond b (i ∷ variables_where is_sort (suc i) (tys rest)) (variables_where is_sort (suc i) (tys rest)))) is

one_further : (i : ℕ) (rest : List SimpleType) → left_over (suc i) rest ≡ left_over (i + 1) rest
one_further i rest = let e : suc i ≡ i + 1 = omega arith in ap (λ j. left_over j rest) e

module _ (whole : Polynomial) (out : List Monomial) (scope : List SimpleType) (i : ℕ) (k : SimpleType) (within : i < length scope)
    (is : k ≡ get_or scope i k) (before : followed_by (sum_of out) (left_over i (drop i scope)) ≡ whole) where
  pub sum_takes : (new : List Monomial) (m : Monomial) → is_sort (ty k) ≡ true → new ≡ out ++ m ∷ [] → (out-Monomial m).coefficient ≡ 1
      → atoms (out-Monomial m).atoms ≡ times i no_arguments no_factors
      → followed_by (sum_of new) (left_over (i + 1) (drop (i + 1) scope)) ≡ whole
  sum_takes new m sorted pushed one single =
      let rest = drop (i + 1) scope in
      ap (λ l. followed_by (sum_of l) (left_over (i + 1) rest)) pushed
      ∙ ap (λ p. followed_by p (left_over (i + 1) rest)) (sum_of_append out (m ∷ []))
      ∙ sum_assoc (sum_of out) (plus (out-Monomial m).coefficient (atoms (out-Monomial m).atoms) zero_poly) (left_over (i + 1) rest)
      ∙ ap₂ (λ c us. followed_by (sum_of out) (plus c us (left_over (i + 1) rest))) one single
      ∙ ap (λ p. followed_by (sum_of out) (plus 1 (times i no_arguments no_factors) p)) (sym (one_further i rest))
      ∙ ap (followed_by (sum_of out)) (sym (ap (left_over i) (drop_next scope i k within is) ∙ sorts_next i k rest true sorted))
      ∙ before

  pub sum_passes : is_sort (ty k) ≡ false → followed_by (sum_of out) (left_over (i + 1) (drop (i + 1) scope)) ≡ whole
  sum_passes sorted =
      let rest = drop (i + 1) scope in
      ap (followed_by (sum_of out)) (sym (ap (left_over i) (drop_next scope i k within is) ∙ sorts_next i k rest false sorted ∙ one_further i rest))
      ∙ before

nothing_left : (scope : List SimpleType) (i : ℕ) → length scope ≤ i → left_over i (drop i scope) ≡ zero_poly
nothing_left [] zero past = refl
nothing_left [] (suc i) past = refl
nothing_left (k ∷ scope) zero past = absurd (omega arith)
nothing_left (k ∷ scope) (suc i) past = later (suc i) scope i (omega arith)
  where
    later : (n : ℕ) (scope : List SimpleType) (i : ℕ) → length scope ≤ i → left_over n (drop i scope) ≡ zero_poly
    later n [] zero past = refl
    later n [] (suc i) past = refl
    later n (k ∷ scope) zero past = absurd (omega arith)
    later n (k ∷ scope) (suc i) past = later n scope i (omega arith)

pub sum_ended : (whole : Polynomial) (out : Poly) (scope : List SimpleType) (i : ℕ) → length scope ≤ i
    → followed_by (sum_of (monomials out)) (left_over i (drop i scope)) ≡ whole → poly out ≡ whole
sum_ended whole out scope i past before =
    poly_is out ∙ sym (sum_ends (sum_of (monomials out))) ∙ ap (followed_by (sum_of (monomials out))) (sym (nothing_left scope i past)) ∙ before

-- factors, one or two

pub no_factor : (us : Atoms) → factors us ≡ [] → atoms us ≡ no_factors
no_factor us none = atoms_is us ∙ ap product_of none

pub one_factor : (us : Atoms) (old : List Atom) (u : Atom) (x : ℕ) (ps : Arguments) → old ≡ [] → factors us ≡ old ++ u ∷ [] → (out-Atom u).head ≡ x
    → polys (out-Atom u).args ≡ ps → atoms us ≡ times x ps no_factors
one_factor us old u x ps none pushed head args =
    atoms_is us ∙ ap product_of (pushed ∙ ap (λ l. l ++ u ∷ []) none) ∙ ap₂ (λ x ps. times x ps no_factors) head args

pub two_factors : (us : Atoms) (old mid : List Atom) (u v : Atom) (x y : ℕ) (ps qs : Arguments) → old ≡ [] → mid ≡ old ++ u ∷ [] → factors us ≡ mid ++ v ∷ []
    → (out-Atom u).head ≡ x → polys (out-Atom u).args ≡ ps → (out-Atom v).head ≡ y → polys (out-Atom v).args ≡ qs
    → atoms us ≡ times x ps (times y qs no_factors)
two_factors us old mid u v x y ps qs none first second head args head_2 args_2 =
    atoms_is us ∙ ap product_of (second ∙ ap (λ l. l ++ v ∷ []) (first ∙ ap (λ l. l ++ u ∷ []) none))
    ∙ ap₂ (λ x ps. times x ps (times (out-Atom v).head (polys (out-Atom v).args) no_factors)) head args
    ∙ ap₂ (λ y qs. times x ps (times y qs no_factors)) head_2 args_2

pub empty_is_zero : (p : Poly) (asked : Bool) (sum : Polynomial) → asked ≡ false → monomials p ≡ [] → poly p ≡ cond asked sum zero_poly
empty_is_zero p asked sum is none = poly_is p ∙ ap sum_of none ∙ sym (ap (λ (b : Bool). cond b sum zero_poly) is)
