-- What is at a spot is of the space.
use Rattle.std.proofs.Common.{◌≡◌, ◌≢◌, ℕ, zero, suc, ◌+◌, ◌<◌, Bool, true, false, not, cond, nat_lt, List, [], ◌∷◌, ◌++◌, length, map, get_or, Contains, refl, ap, sym, subst, arith}
use mathlib.Core.Bool.{beq}
use Rattle.std.proofs.lemmas.List.Elements.{Contains-append_left, Contains-append_right}
use Rattle.wh_types.specs.Ty.{Ty}
use Rattle.wh_types.specs.Erase.{ty, tys}
use Rattle.wh_types.specs.declared.simple_type.SimpleType.{SimpleType}
use Rattle.wh_poly.specs.Polynomials.{Factors, no_factors}
use Rattle.wh_hopoly.specs.Evaluation.{type_at}
use Rattle.wh_poly_space.specs.Space.{is_sort, variables_where, sort_variables, functional_variables, variable_before, alone, both, products, space_of}
use Rattle.wh_poly_space.specs.Spots.{IsSpot, factors_at}
use Rattle.wh_poly_space.specs.declared.space.Spot.{Spot}
use Rattle.wh_poly_space.specs.declared.space.Spot.TheVariants.{Constant, One, Two}

at_head : {A : Type 0} (x : A) (xs : List A) → Contains (x ∷ xs) x
at_head x xs = (0, omega arith, refl)

behind : {A : Type 0} (x y : A) (xs : List A) → Contains xs y → Contains (x ∷ xs) y
behind x y xs (k, within, is) = (suc k, omega arith, is)

-- a mapped element is one of the mapped list
mapped : {A B : Type 0} (f : A → B) (xs : List A) (x : A) → Contains xs x → Contains (map f xs) (f x)
mapped f [] x (k, within, is) = absurd (omega arith)
mapped f (y ∷ ys) x (zero, within, is) = (0, omega arith, ap f is)
mapped f (y ∷ ys) x (suc k, within, is) = behind (f y) (f x) (map f ys) (mapped f ys x (k, omega arith, is))

-- a variable whose type passes the test is one of those that do
pub variable_there : (test : Ty → Bool) (n : ℕ) (Γ : List Ty) (x : ℕ) → x < length Γ → test (type_at Γ x) ≡ true → Contains (variables_where test n Γ) (n + x)
variable_there test n [] x within passes = absurd (omega arith)
variable_there test n (A ∷ Γ) zero within passes =
    subst (λ (b : Bool). Contains (cond b (n ∷ variables_where test (suc n) Γ) (variables_where test (suc n) Γ)) (n + 0)) (sym passes)
    (let e : n ≡ n + 0 = omega arith in subst (Contains (n ∷ variables_where test (suc n) Γ)) e (at_head n (variables_where test (suc n) Γ)))
variable_there test n (A ∷ Γ) (suc x) within passes =
    let there = variable_there test (suc n) Γ x (omega arith) passes in
    let e : suc n + x ≡ n + suc x = omega arith in
    let found = subst (Contains (variables_where test (suc n) Γ)) e there in
    kept (test A) found
  where
    kept : (b : Bool) → Contains (variables_where test (suc n) Γ) (n + suc x) → Contains (cond b (n ∷ variables_where test (suc n) Γ) (variables_where test (suc n) Γ)) (n + suc x)
    kept true found = behind n (n + suc x) (variables_where test (suc n) Γ) found
    kept false found = found

pub sort_there : (Γ : List Ty) (x : ℕ) → x < length Γ → is_sort (type_at Γ x) ≡ true → Contains (sort_variables Γ) x
sort_there Γ x within is = let e : 0 + x ≡ x = omega arith in subst (Contains (sort_variables Γ)) e (variable_there is_sort 0 Γ x within is)

pub functional_there : (Γ : List Ty) (x : ℕ) → x < length Γ → is_sort (type_at Γ x) ≡ false → Contains (functional_variables Γ) x
functional_there Γ x within is =
    let e : 0 + x ≡ x = omega arith in
    subst (Contains (functional_variables Γ)) e (variable_there (λ A. not (is_sort A)) 0 Γ x within (ap not is))

product_there : (Γ : List Ty) (xs : List ℕ) (x y : ℕ) → Contains xs x → Contains (sort_variables Γ) y → Contains (products Γ xs) (both Γ x y)
product_there Γ [] x y (k, within, is) sorted = absurd (omega arith)
product_there Γ (z ∷ zs) x y (zero, within, is) sorted =
    Contains-append_left (map (both Γ z) (sort_variables Γ)) (products Γ zs) (both Γ x y)
    (subst (λ (v : ℕ). Contains (map (both Γ z) (sort_variables Γ)) (both Γ v y)) is (mapped (both Γ z) (sort_variables Γ) y sorted))
product_there Γ (z ∷ zs) x y (suc k, within, is) sorted =
    Contains-append_right (map (both Γ z) (sort_variables Γ)) (products Γ zs) (both Γ x y) (product_there Γ zs x y (k, omega arith, is) sorted)

in_products : (Γ : List Ty) (us : Factors) → Contains (products Γ (functional_variables Γ)) us → Contains (space_of Γ) us
unfolding space_of
in_products Γ us found =
    behind no_factors us (map (alone Γ) (sort_variables Γ) ++ (map (alone Γ) (functional_variables Γ) ++ products Γ (functional_variables Γ)))
    (Contains-append_right (map (alone Γ) (sort_variables Γ)) (map (alone Γ) (functional_variables Γ) ++ products Γ (functional_variables Γ)) us
    (Contains-append_right (map (alone Γ) (functional_variables Γ)) (products Γ (functional_variables Γ)) us found))

constant_there : (Γ : List Ty) → Contains (space_of Γ) no_factors
unfolding space_of
constant_there Γ = at_head no_factors (map (alone Γ) (sort_variables Γ) ++ (map (alone Γ) (functional_variables Γ) ++ products Γ (functional_variables Γ)))

alone_there : (Γ : List Ty) (x : ℕ) → x < length Γ → (b : Bool) → is_sort (type_at Γ x) ≡ b → Contains (space_of Γ) (alone Γ x)
unfolding space_of
alone_there Γ x within true is =
    behind no_factors (alone Γ x) (map (alone Γ) (sort_variables Γ) ++ (map (alone Γ) (functional_variables Γ) ++ products Γ (functional_variables Γ)))
    (Contains-append_left (map (alone Γ) (sort_variables Γ)) (map (alone Γ) (functional_variables Γ) ++ products Γ (functional_variables Γ)) (alone Γ x)
    (mapped (alone Γ) (sort_variables Γ) x (sort_there Γ x within is)))
alone_there Γ x within false is =
    behind no_factors (alone Γ x) (map (alone Γ) (sort_variables Γ) ++ (map (alone Γ) (functional_variables Γ) ++ products Γ (functional_variables Γ)))
    (Contains-append_right (map (alone Γ) (sort_variables Γ)) (map (alone Γ) (functional_variables Γ) ++ products Γ (functional_variables Γ)) (alone Γ x)
    (Contains-append_left (map (alone Γ) (functional_variables Γ)) (products Γ (functional_variables Γ)) (alone Γ x)
    (mapped (alone Γ) (functional_variables Γ) x (functional_there Γ x within is))))

-- two variables in either order
both_in_order : (Γ : List Ty) (x y : ℕ) → x < y → both Γ x y ≡ variable_before Γ x (alone Γ y)
both_in_order Γ x y less =
    let t : nat_lt x y ≡ true = grind arith in ap (λ (b : Bool). cond b (variable_before Γ x (alone Γ y)) (variable_before Γ y (alone Γ x))) t

both_out_of_order : (Γ : List Ty) (x y : ℕ) → y < x → both Γ x y ≡ variable_before Γ y (alone Γ x)
both_out_of_order Γ x y less =
    let t : nat_lt x y ≡ false = grind arith in ap (λ (b : Bool). cond b (variable_before Γ x (alone Γ y)) (variable_before Γ y (alone Γ x))) t

two_there : (Γ : List Ty) (x y : ℕ) → x < y → y < length Γ → (a b : Bool) → is_sort (type_at Γ x) ≡ a → is_sort (type_at Γ y) ≡ b → a ≢ b
    → Contains (space_of Γ) (variable_before Γ x (alone Γ y))
two_there Γ x y less within true true is_x is_y apart = absurd (apart refl)
two_there Γ x y less within false false is_x is_y apart = absurd (apart refl)
two_there Γ x y less within true false is_x is_y apart =
    subst (Contains (space_of Γ)) (both_out_of_order Γ y x less)
    (in_products Γ (both Γ y x) (product_there Γ (functional_variables Γ) y x (functional_there Γ y within is_y) (sort_there Γ x (omega arith) is_x)))
two_there Γ x y less within false true is_x is_y apart =
    subst (Contains (space_of Γ)) (both_in_order Γ x y less)
    (in_products Γ (both Γ x y) (product_there Γ (functional_variables Γ) x y (functional_there Γ x (omega arith) is_x) (sort_there Γ y within is_y)))

pub spot_there : (Γ : List Ty) (spot : Spot) → IsSpot Γ spot → Contains (space_of Γ) (factors_at Γ spot)
spot_there Γ Constant is = constant_there Γ
spot_there Γ (One x) within = alone_there Γ x within (is_sort (type_at Γ x)) refl
spot_there Γ (Two x y) (less, within, apart) = two_there Γ x y less within (is_sort (type_at Γ x)) (is_sort (type_at Γ y)) refl refl apart

-- the type of a variable, as a walk over the scope reads it
pub type_there : (scope : List SimpleType) (x : ℕ) (k : SimpleType) → x < length scope → k ≡ get_or scope x k → type_at (tys scope) x ≡ ty k
type_there [] x k within is = absurd (omega arith)
type_there (a ∷ scope) zero k within is = ap ty (sym is)
type_there (a ∷ scope) (suc x) k within is = type_there scope x k (omega arith) is

-- a test of two truth values that tells that they are not the same
pub differ : (a b r s : Bool) {u v : Bool} → u ≡ a → v ≡ b → r ≡ a → s ≡ b → not (beq r s) ≡ true → u ≢ v
differ true true true true e f g h told = absurd (cc)
differ false false false false e f g h told = absurd (cc)
differ true false r s e f g h told = λ same. cc
differ false true r s e f g h told = λ same. cc
differ true true true false e f g h told = absurd (cc)
differ true true false s e f g h told = absurd (cc)
differ false false false true e f g h told = absurd (cc)
differ false false true s e f g h told = absurd (cc)

-- and one that tells that they are
pub do_not_differ : (a b r s : Bool) {u v : Bool} → u ≡ a → v ≡ b → r ≡ a → s ≡ b → not (beq r s) ≡ false → u ≡ v
do_not_differ true true r s e f g h told = cc
do_not_differ false false r s e f g h told = cc
do_not_differ true false true false e f g h told = absurd (cc)
do_not_differ false true false true e f g h told = absurd (cc)
do_not_differ true false true true e f g h told = absurd (cc)
do_not_differ true false false s e f g h told = absurd (cc)
do_not_differ false true false false e f g h told = absurd (cc)
do_not_differ false true true s e f g h told = absurd (cc)
