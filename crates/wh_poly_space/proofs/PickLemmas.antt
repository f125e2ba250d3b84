-- The polynomial of the chosen coefficients, with its monomials in the order of normal forms.
use Rattle.std.proofs.Common.{◌≡◌, ℕ, zero, suc, ◌+◌, ◌<◌, ◌≤◌, inl, inr, nat_lt, Bool, true, false, cond, List, [], ◌∷◌, ◌++◌, length, drop, get_or, All, Contains, Some, slice_get, refl, ap, ap₂, sym, subst, ◌∙◌, arith, Less, Equal, Greater, nat_cmp}
use Rattle.std.specs.Ordering.{ordering_then}
use Rattle.std.proofs.lemmas.Bool.Decides.{nat_tests}
use Rattle.std.proofs.lemmas.List.Elements.{All-nil, All-cons, All-head, All-tail, All-contains}
use Rattle.wh_types.specs.Ty.{Ty, sort, ◌⇒◌, arguments}
use Rattle.wh_poly.specs.Polynomials.{Polynomial, zero_poly, plus, Factors, no_factors, times, Arguments, no_arguments, HasType, compare_factors, compare_arguments, MonomialBefore, Normal, NormalFactors, NormalArguments, FactorBefore}
use Rattle.wh_poly.specs.Arithmetic.{followed_by}
use Rattle.wh_hopoly.specs.Evaluation.{type_at}
use Rattle.wh_hopoly.specs.Moves.{MonomialAt}
use Rattle.wh_poly.specs.Erase.{atoms, monomials, poly, sum_of}
use Rattle.std.proofs.Math.ListN.{drop_of_length-le}
use Rattle.wh_poly.specs.declared.polynomial.Poly.{Poly}
use Rattle.wh_poly.specs.declared.polynomial.Monomial.{Monomial, out-Monomial}
use Rattle.wh_poly.proofs.Lists.{poly_is}
use Rattle.wh_poly.proofs.OrderLaws.{arguments_same}
use Rattle.wh_poly.proofs.Pushes.{sum_of_append}
use Rattle.wh_hopoly.proofs.ReplaceLaws.{at_left}
use Rattle.wh_poly_space.specs.Space.{is_sort, variables_where, sort_variables, sum_of_variables, filled, variable_before, alone, space_of, HasMonomial}
use Rattle.wh_poly_space.specs.Coefficients.{capped, HasCoefficients}
use Rattle.wh_poly_space.specs.Spots.{IsSpot, factors_at, first_of, second_of, IsBefore, Ascends, AreAllSpots, place}
use Rattle.wh_poly_space.specs.declared.space.Spot.{Spot}
use Rattle.wh_poly_space.specs.declared.space.Spot.TheVariants.{Constant, One, Two}
use Rattle.wh_poly_space.proofs.BuildLemmas.{sum_assoc, sum_ends}
use Rattle.wh_poly_space.proofs.OrderLemmas.{one_spot, all_there}
use Rattle.wh_poly_space.proofs.SpaceLemmas.{spot_there}
use Rattle.wh_poly_space.proofs.SpotLemmas.{spot_at}

-- the factors at a spot are normal

typed_at : (Γ : List Ty) (x : ℕ) → x < length Γ → HasType Γ x (type_at Γ x)
typed_at [] x within = absurd (omega arith)
typed_at (A ∷ Γ) zero within = refl
typed_at (A ∷ Γ) (suc x) within = typed_at Γ x (omega arith)

head_less : (x y : ℕ) (ps qs : Arguments) (us vs : Factors) → x < y → compare_factors (times x ps us) (times y qs vs) ≡ Less
head_less x y ps qs us vs less =
    let t : nat_cmp x y ≡ Less = grind arith in
    ap (λ o. ordering_then (ordering_then o (compare_arguments ps qs)) (compare_factors us vs)) t

same_head : (x : ℕ) (ps : Arguments) (us vs : Factors) → compare_factors (times x ps us) (times x ps vs) ≡ compare_factors us vs
same_head x ps us vs =
    let t : nat_cmp x x ≡ Equal = grind arith in
    ap₂ (λ o u. ordering_then (ordering_then o u) (compare_factors us vs)) t (arguments_same ps)

first_after : (n m : ℕ) (Γ : List Ty) → n < m → MonomialBefore (times n no_arguments no_factors) (sum_of_variables (variables_where is_sort m Γ))
first_after n m [] less = tt
first_after n m (A ∷ Γ) less = by (is_sort A) (first_after n (suc m) Γ (omega (arith, less)))
  where
    by : (b : Bool) → MonomialBefore (times n no_arguments no_factors) (sum_of_variables (variables_where is_sort (suc m) Γ))
        → MonomialBefore (times n no_arguments no_factors) (sum_of_variables (cond b (m ∷ variables_where is_sort (suc m) Γ) (variables_where is_sort (suc m) Γ)))
    by true later = head_less n m no_arguments no_arguments no_factors no_factors less
    by false later = later

-- the sum of the variables of a sort, in a scope where they have the same types
sum_normal : (Δ : List Ty) (n : ℕ) (Γ : List Ty) → ((x : ℕ) (A : Ty) → HasType Γ x A → HasType Δ (n + x) A) → Normal Δ (sum_of_variables (variables_where is_sort n Γ))
sum_normal Δ n [] typed = tt
sum_normal Δ n (A ∷ Γ) typed = by A (typed 0 A refl) (sum_normal Δ (suc n) Γ (λ x B has. let e : n + suc x ≡ suc n + x = omega arith in subst (λ (y : ℕ). HasType Δ y B) e (typed (suc x) B has)))
  where
    by : (A : Ty) → HasType Δ (n + 0) A → Normal Δ (sum_of_variables (variables_where is_sort (suc n) Γ)) → Normal Δ (sum_of_variables (variables_where is_sort n (A ∷ Γ)))
    by (sort s) has rest =
        let e : n + 0 ≡ n = omega arith in
        (omega arith, (sort s, subst (λ (y : ℕ). HasType Δ y (sort s)) e has, tt, tt, tt), first_after n (suc n) Γ (omega arith), rest)
    by (B ⇒ C) has rest = rest

filled_normal : (Γ : List Ty) (p : Polynomial) → ((Δ : List Ty) → Normal (Γ ++ Δ) p) → (A : Ty) → NormalArguments Γ A (filled p A)
filled_normal Γ p normal (sort s) = tt
filled_normal Γ p normal (sort s ⇒ B) = (normal (arguments (sort s)), filled_normal Γ p normal B)
filled_normal Γ p normal ((A ⇒ C) ⇒ B) = (tt, filled_normal Γ p normal B)

module _ (Γ : List Ty) where
  variable_normal : (x : ℕ) (us : Factors) → x < length Γ → FactorBefore x (filled (sum_of_variables (sort_variables Γ)) (type_at Γ x)) us → NormalFactors Γ us
      → NormalFactors Γ (variable_before Γ x us)
  variable_normal x us within before rest =
      let sum = sum_of_variables (sort_variables Γ) in
      let normal = λ (Δ : List Ty). sum_normal (Γ ++ Δ) 0 Γ (λ y A has. let e : y ≡ 0 + y = omega arith in subst (λ (y : ℕ). HasType (Γ ++ Δ) y A) e (at_left Γ Δ y A has)) in
      (type_at Γ x, typed_at Γ x within, filled_normal Γ sum normal (type_at Γ x), before, rest)

  spot_normal : (s : Spot) → IsSpot Γ s → NormalFactors Γ (factors_at Γ s)
  spot_normal Constant is = tt
  spot_normal (One x) within = variable_normal x no_factors within tt tt
  spot_normal (Two x y) (less, within, apart) =
      let rest = variable_normal y no_factors within tt tt in
      variable_normal x (alone Γ y) (omega (arith, less, within)) before rest
    where
      before : FactorBefore x (filled (sum_of_variables (sort_variables Γ)) (type_at Γ x)) (alone Γ y)
      before greater =
          let t : nat_cmp x y ≡ Less = grind (arith, less) in
          let u = ap (λ o. ordering_then o (compare_arguments (filled (sum_of_variables (sort_variables Γ)) (type_at Γ x)) (filled (sum_of_variables (sort_variables Γ)) (type_at Γ y)))) t in
          less_greater (sym u ∙ greater)
        where
          less_greater : Less ≡ Greater → ⊥
          less_greater e = cc

  variable_less : (x y : ℕ) (us vs : Factors) → x < y → compare_factors (variable_before Γ x us) (variable_before Γ y vs) ≡ Less
  variable_less x y us vs less =
      head_less x y (filled (sum_of_variables (sort_variables Γ)) (type_at Γ x)) (filled (sum_of_variables (sort_variables Γ)) (type_at Γ y)) us vs less

  same_variable : (x : ℕ) (us vs : Factors) → compare_factors (variable_before Γ x us) (variable_before Γ x vs) ≡ compare_factors us vs
  same_variable x us vs = same_head x (filled (sum_of_variables (sort_variables Γ)) (type_at Γ x)) us vs

  -- and the spots' order is that of their factors
  factors_less : (s t : Spot) → IsBefore s (first_of t) (second_of t) → compare_factors (factors_at Γ s) (factors_at Γ t) ≡ Less
  factors_less Constant Constant (inl less) = absurd (omega (arith, less))
  factors_less Constant Constant (inr (same, less)) = absurd (omega (arith, less))
  factors_less Constant (One y) before = refl
  factors_less Constant (Two y z) before = refl
  factors_less (One x) Constant (inl less) = absurd (omega (arith, less))
  factors_less (One x) Constant (inr (same, less)) = absurd (omega (arith, less))
  factors_less (One x) (One y) (inl less) = variable_less x y no_factors no_factors (omega (arith, less))
  factors_less (One x) (One y) (inr (same, less)) = absurd (omega (arith, less))
  factors_less (One x) (Two y z) (inl less) = variable_less x y no_factors (alone Γ z) (omega (arith, less))
  factors_less (One x) (Two y z) (inr (same, less)) =
      let e : x ≡ y = omega (arith, same) in
      subst (λ (y : ℕ). compare_factors (alone Γ x) (variable_before Γ y (alone Γ z)) ≡ Less) e (same_variable x no_factors (alone Γ z))
  factors_less (Two x w) Constant (inl less) = absurd (omega (arith, less))
  factors_less (Two x w) Constant (inr (same, less)) = absurd (omega (arith, less))
  factors_less (Two x w) (One y) (inl less) = variable_less x y (alone Γ w) no_factors (omega (arith, less))
  factors_less (Two x w) (One y) (inr (same, less)) = absurd (omega (arith, less))
  factors_less (Two x w) (Two y z) (inl less) = variable_less x y (alone Γ w) (alone Γ z) (omega (arith, less))
  factors_less (Two x w) (Two y z) (inr (same, less)) =
      let e : x ≡ y = omega (arith, same) in
      subst (λ (y : ℕ). compare_factors (variable_before Γ x (alone Γ w)) (variable_before Γ y (alone Γ z)) ≡ Less) e
      (same_variable x (alone Γ w) (alone Γ z) ∙ variable_less w z no_factors no_factors (omega (arith, less)))

-- the variables that factors have, counted from 1

abbrev head_of : Factors → ℕ
head_of no_factors = 0
head_of (times x ps us) = suc x

abbrev next_of : Factors → ℕ
next_of no_factors = 0
next_of (times x ps us) = head_of us

first_is : (Γ : List Ty) (s : Spot) → head_of (factors_at Γ s) ≡ first_of s
first_is Γ Constant = refl
first_is Γ (One x) = refl
first_is Γ (Two x y) = refl

second_is : (Γ : List Ty) (s : Spot) → next_of (factors_at Γ s) ≡ second_of s
second_is Γ Constant = refl
second_is Γ (One x) = refl
second_is Γ (Two x y) = refl

-- no two spots have the same factors
same_spot : (Γ : List Ty) (s t : Spot) → factors_at Γ s ≡ factors_at Γ t → s ≡ t
same_spot Γ s t same =
    one_spot s t (sym (first_is Γ s) ∙ ap head_of same ∙ first_is Γ t) (sym (second_is Γ s) ∙ ap next_of same ∙ second_is Γ t)

-- the monomials of spots, each as often as is chosen

module _ (Γ : List Ty) (chosen : Spot → ℕ) where
  abbrev pub picked : List Spot → Polynomial
  picked [] = zero_poly
  picked (s ∷ spots) = cond (nat_lt 0 (chosen s)) (plus (chosen s) (factors_at Γ s) (picked spots)) (picked spots)

  picked_before : (us : Factors) (spots : List Spot) → All (λ t. compare_factors us (factors_at Γ t) ≡ Less) spots → MonomialBefore us (picked spots)
  picked_before us [] less = tt
  picked_before us (s ∷ spots) less =
      by (nat_lt 0 (chosen s)) (All-head (λ t. compare_factors us (factors_at Γ t) ≡ Less) s spots less)
      (picked_before us spots (All-tail (λ t. compare_factors us (factors_at Γ t) ≡ Less) s spots less))
    where
      by : (b : Bool) → compare_factors us (factors_at Γ s) ≡ Less → MonomialBefore us (picked spots)
          → MonomialBefore us (cond b (plus (chosen s) (factors_at Γ s) (picked spots)) (picked spots))
      by true here later = here
      by false here later = later

  all_less : (s : Spot) (spots : List Spot) → All (λ t. IsBefore s (first_of t) (second_of t)) spots → All (λ t. compare_factors (factors_at Γ s) (factors_at Γ t) ≡ Less) spots
  all_less s [] before = All-nil (λ t. compare_factors (factors_at Γ s) (factors_at Γ t) ≡ Less)
  all_less s (t ∷ spots) before =
      All-cons (λ t. compare_factors (factors_at Γ s) (factors_at Γ t) ≡ Less) t spots
      (factors_less Γ s t (All-head (λ t. IsBefore s (first_of t) (second_of t)) t spots before))
      (all_less s spots (All-tail (λ t. IsBefore s (first_of t) (second_of t)) t spots before))

  picked_normal : (spots : List Spot) → All (IsSpot Γ) spots → Ascends spots → Normal Γ (picked spots)
  picked_normal [] are up = tt
  picked_normal (s ∷ spots) are (before, up) =
      by (nat_lt 0 (chosen s)) refl (picked_normal spots (All-tail (IsSpot Γ) s spots are) up)
    where
      by : (b : Bool) → nat_lt 0 (chosen s) ≡ b → Normal Γ (picked spots) → Normal Γ (cond b (plus (chosen s) (factors_at Γ s) (picked spots)) (picked spots))
      by true is rest =
          let positive : 1 ≤ chosen s = grind (arith, nat_tests, is) in
          (positive, spot_normal Γ s (All-head (IsSpot Γ) s spots are), picked_before (factors_at Γ s) spots (all_less s spots before), rest)
      by false is rest = rest

  -- what the monomials are

  abbrev IsPicked : List Spot → ℕ → Factors → Type 0
  IsPicked spots c us = (s : Spot) × Contains spots s × (c ≡ chosen s) × (1 ≤ c) × (us ≡ factors_at Γ s)

  picked_is : (spots : List Spot) (i c : ℕ) (us : Factors) → MonomialAt (picked spots) i c us → IsPicked spots c us
  picked_is [] i c us at = absurd at
  picked_is (s ∷ spots) i c us at = by (nat_lt 0 (chosen s)) refl i at
      (λ i at. let (t, (k, within, is), c_is, positive, us_is) = picked_is spots i c us at in (t, (suc k, omega (arith, within), is), c_is, positive, us_is))
    where
      by : (b : Bool) → nat_lt 0 (chosen s) ≡ b → (i : ℕ) → MonomialAt (cond b (plus (chosen s) (factors_at Γ s) (picked spots)) (picked spots)) i c us
          → ((i : ℕ) → MonomialAt (picked spots) i c us → IsPicked (s ∷ spots) c us) → IsPicked (s ∷ spots) c us
      by true is zero (same_c, same_us) later =
          let positive : 1 ≤ chosen s = grind (arith, nat_tests, is) in
          (s, (0, omega arith, refl), sym same_c, omega (arith, positive, same_c), sym same_us)
      by true is (suc i) at later = later i at
      by false is i at later = later i at

  picked_has : (spots : List Spot) (s : Spot) → Contains spots s → 1 ≤ chosen s → HasMonomial (picked spots) (chosen s) (factors_at Γ s)
  picked_has [] s (k, within, is) positive = absurd (omega (arith, within))
  picked_has (t ∷ spots) s (zero, within, is) positive =
      subst (λ (s : Spot). HasMonomial (picked (t ∷ spots)) (chosen s) (factors_at Γ s)) is here
    where
      here : HasMonomial (picked (t ∷ spots)) (chosen t) (factors_at Γ t)
      here =
          let p : 1 ≤ chosen t = subst (λ (s : Spot). 1 ≤ chosen s) (sym is) positive in
          let b : nat_lt 0 (chosen t) ≡ true = grind (arith, nat_tests, p) in
          (0, subst (λ (b : Bool). MonomialAt (cond b (plus (chosen t) (factors_at Γ t) (picked spots)) (picked spots)) 0 (chosen t) (factors_at Γ t)) (sym b) (refl, refl))
  picked_has (t ∷ spots) s (suc k, within, is) positive =
      by (nat_lt 0 (chosen t)) (picked_has spots s (k, omega (arith, within), is) positive)
    where
      by : (b : Bool) → HasMonomial (picked spots) (chosen s) (factors_at Γ s)
          → HasMonomial (cond b (plus (chosen t) (factors_at Γ t) (picked spots)) (picked spots)) (chosen s) (factors_at Γ s)
      by true (i, at) = (suc i, at)
      by false found = found

-- it has the coefficients by the places of the spots

abbrev pub chosen_by : List Ty → List ℕ → Spot → ℕ
chosen_by Γ cs s = capped (get_or cs (place Γ s) 0)

capped_small : (c : ℕ) → capped c ≤ 3
capped_small c = by (nat_lt 3 c) refl
  where
    by : (b : Bool) → nat_lt 3 c ≡ b → cond b 3 c ≤ 3
    by true is = omega arith
    by false is = grind (arith, nat_tests, is)

pub picked_coefficients : (Γ : List Ty) (cs : List ℕ) (spots : List Spot) → AreAllSpots Γ spots → HasCoefficients Γ cs (picked Γ (chosen_by Γ cs) spots)
picked_coefficients Γ cs spots to = record {
  of_space = record {
    normal = picked_normal Γ (chosen_by Γ cs) spots to.are to.ascends;
    monomials = λ c us (i, at).
        let (s, found, c_is, positive, us_is) = picked_is Γ (chosen_by Γ cs) spots i c us at in
        let small = capped_small (get_or cs (place Γ s) 0) in
        (omega (arith, c_is, small), subst (Contains (space_of Γ)) (sym us_is) (spot_there Γ s (All-contains (IsSpot Γ) spots s to.are found)));
  };
  each = λ j c us at. (there j c us at, back j c us at);
}
  where
    there : (j c : ℕ) (us : Factors) → slice_get (space_of Γ) j ≡ Some us → HasMonomial (picked Γ (chosen_by Γ cs) spots) c us → (c ≡ capped (get_or cs j 0)) × (1 ≤ c)
    there j c us at (i, m) =
        let (t, is, same_us, same_j) = spot_at Γ j us at in
        let (s, found, c_is, positive, us_is) = picked_is Γ (chosen_by Γ cs) spots i c us m in
        let same = same_spot Γ s t (sym us_is ∙ sym same_us) in
        (c_is ∙ ap (chosen_by Γ cs) same ∙ ap (λ (j : ℕ). capped (get_or cs j 0)) same_j, positive)

    back : (j c : ℕ) (us : Factors) → slice_get (space_of Γ) j ≡ Some us → (c ≡ capped (get_or cs j 0)) × (1 ≤ c) → HasMonomial (picked Γ (chosen_by Γ cs) spots) c us
    back j c us at (c_is, positive) =
        let (t, is, same_us, same_j) = spot_at Γ j us at in
        let chosen : c ≡ chosen_by Γ cs t = c_is ∙ ap (λ (j : ℕ). capped (get_or cs j 0)) (sym same_j) in
        let has = picked_has Γ (chosen_by Γ cs) spots t (all_there Γ spots to t is) (omega (arith, positive, chosen)) in
        subst (λ (us : Factors). HasMonomial (picked Γ (chosen_by Γ cs) spots) c us) same_us
        (subst (λ (c : ℕ). HasMonomial (picked Γ (chosen_by Γ cs) spots) c (factors_at Γ t)) (sym chosen) has)

-- the monomials of the rest of the spots are still to be made

module _ (Γ : List Ty) (chosen : Spot → ℕ) (whole : Polynomial) (out : List Monomial) (s : Spot) (rest : List Spot)
    (before : followed_by (sum_of out) (picked Γ chosen (s ∷ rest)) ≡ whole) where
  pub picked_takes : (new : List Monomial) (m : Monomial) (c : ℕ) → c ≡ chosen s → 0 < c → new ≡ out ++ m ∷ [] → (out-Monomial m).coefficient ≡ c
      → atoms (out-Monomial m).atoms ≡ factors_at Γ s → followed_by (sum_of new) (picked Γ chosen rest) ≡ whole
  picked_takes new m c is positive pushed coefficient factors =
      let taken : nat_lt 0 (chosen s) ≡ true = grind (arith, nat_tests, positive, is) in
      ap (λ l. followed_by (sum_of l) (picked Γ chosen rest)) pushed
      ∙ ap (λ p. followed_by p (picked Γ chosen rest)) (sum_of_append out (m ∷ []))
      ∙ sum_assoc (sum_of out) (plus (out-Monomial m).coefficient (atoms (out-Monomial m).atoms) zero_poly) (picked Γ chosen rest)
      ∙ ap₂ (λ c us. followed_by (sum_of out) (plus c us (picked Γ chosen rest))) (coefficient ∙ is) factors
      ∙ ap (λ (b : Bool). followed_by (sum_of out) (cond b (plus (chosen s) (factors_at Γ s) (picked Γ chosen rest)) (picked Γ chosen rest))) (sym taken)
      ∙ before

  pub picked_passes : (c : ℕ) → c ≡ chosen s → c ≤ 0 → followed_by (sum_of out) (picked Γ chosen rest) ≡ whole
  picked_passes c is none =
      let passed : nat_lt 0 (chosen s) ≡ false = grind (arith, nat_tests, none, is) in
      ap (λ (b : Bool). followed_by (sum_of out) (cond b (plus (chosen s) (factors_at Γ s) (picked Γ chosen rest)) (picked Γ chosen rest))) (sym passed)
      ∙ before

pub picked_ends : (Γ : List Ty) (chosen : Spot → ℕ) (whole : Polynomial) (out : Poly) (spots : List Spot) (i : ℕ) → length spots ≤ i
    → followed_by (sum_of (monomials out)) (picked Γ chosen (drop i spots)) ≡ whole → poly out ≡ whole
picked_ends Γ chosen whole out spots i past before =
    poly_is out ∙ sym (sum_ends (sum_of (monomials out)))
    ∙ ap (λ l. followed_by (sum_of (monomials out)) (picked Γ chosen l)) (sym (drop_of_length-le spots past)) ∙ before
