-- Spots of a scope: which variables a monomial has, where it stands in the space, and in which order normal forms have
-- it.
use Rattle.std.specs.Prelude.{ℕ, zero, suc, ◌+◌, ◌<◌, ◌≤◌, ◌≡◌, ◌≢◌, ◌⊎◌, ◌^◌, ◌-◌, nat_lt, List, [], ◌∷◌, ◌++◌, map, length, if◌then◌else◌, All, Contains, Some, slice_get}
use Rattle.wh_types.specs.Ty.{Ty}
use Rattle.wh_poly.specs.Polynomials.{Factors, no_factors}
use Rattle.wh_hopoly.specs.Evaluation.{type_at}
use Rattle.wh_poly_space.specs.Space.{is_sort, variable_before, alone, sort_variables, functional_variables}
use Rattle.wh_poly_space.specs.declared.space.Spot.{Spot}
use Rattle.wh_poly_space.specs.declared.space.Spot.TheVariants.{Constant, One, Two}
use Rattle.wh_poly_space.specs.declared.places.Place.{Place}
use Rattle.wh_poly_space.specs.declared.places.Walk.{Walk}

-- the variables are there, and two are in order, one of them of a sort and one functional
abbrev pub IsSpot : List Ty → Spot → Type 0
IsSpot Γ Constant = Unit {0}
IsSpot Γ (One x) = x < length Γ
IsSpot Γ (Two x y) = (x < y) × (y < length Γ) × (is_sort (type_at Γ x) ≢ is_sort (type_at Γ y))

-- the variables are among the first `count` ones
abbrev pub IsSpotBelow : ℕ → Spot → Type 0
IsSpotBelow count Constant = Unit {0}
IsSpotBelow count (One x) = x < count
IsSpotBelow count (Two x y) = (x < count) × (y < count)

-- the factors of the monomial there
abbrev pub factors_at : List Ty → Spot → Factors
factors_at Γ Constant = no_factors
factors_at Γ (One x) = alone Γ x
factors_at Γ (Two x y) = variable_before Γ x (alone Γ y)

-- the spot of two variables, and those of each of the first variables with each of the second ones
abbrev pub spot_of_two : ℕ → ℕ → Spot
spot_of_two x y = if nat_lt x y then Two x y else Two y x

abbrev pub rows_of : List ℕ → List ℕ → List Spot
rows_of [] ys = []
rows_of (x ∷ xs) ys = map (spot_of_two x) ys ++ rows_of xs ys

-- the spots of variables of a sort and of functional ones, in the order of the space
abbrev pub spots_by : List ℕ → List ℕ → List Spot
spots_by sorts functional = Constant ∷ (map One sorts ++ (map One functional ++ rows_of functional sorts))

-- the order of normal forms: by the first variable, then by the second one, counted from 1; 0 where there is none
-- (ours)
abbrev pub first_of : Spot → ℕ
first_of Constant = 0
first_of (One x) = suc x
first_of (Two x y) = suc x

abbrev pub second_of : Spot → ℕ
second_of Constant = 0
second_of (One x) = 0
second_of (Two x y) = suc y

-- the spot stands before the place (a, b) of that order
abbrev pub IsBefore : Spot → ℕ → ℕ → Type 0
IsBefore s a b = (first_of s < a) ⊎ ((first_of s ≡ a) × (second_of s < b))

-- each spot stands before all later ones
abbrev pub Ascends : List Spot → Type 0
Ascends [] = Unit {0}
Ascends (s ∷ spots) = All (λ t. IsBefore s (first_of t) (second_of t)) spots × Ascends spots

-- the list has all spots before a place, in order (ours)
pub record AreSpotsTo (Γ : List Ty) (a b : ℕ) (spots : List Spot) : Type 0 where
  pub are : All (IsSpot Γ) spots
  pub ascends : Ascends spots
  pub below : All (λ s. IsBefore s a b) spots
  pub all : (s : Spot) → IsSpot Γ s → IsBefore s a b → Contains spots s

-- the list has all spots of the scope, in order
abbrev pub AreAllSpots : List Ty → List Spot → Type 0
AreAllSpots Γ spots = AreSpotsTo Γ (suc (length Γ)) 0 spots

-- the sum of weights of the types before x
abbrev pub weight_before : (Ty → ℕ) → List Ty → ℕ → ℕ
weight_before weight [] x = 0
weight_before weight (A ∷ Γ) zero = 0
weight_before weight (A ∷ Γ) (suc x) = weight A + weight_before weight Γ x

-- how many variables of a sort stand before x, how many functional ones, and how many products of these with one of
-- `count`
abbrev pub sorts_before : List Ty → ℕ → ℕ
sorts_before = weight_before (λ A. if is_sort A then 1 else 0)

abbrev pub functional_before : List Ty → ℕ → ℕ
functional_before = weight_before (λ A. if is_sort A then 0 else 1)

abbrev pub products_before : ℕ → List Ty → ℕ → ℕ
products_before count = weight_before (λ A. if is_sort A then 0 else count)

-- where a variable alone stands in the space, and two numbers that come together to where a product does: where the row
-- of a functional variable begins, and where in a row a variable of a sort stands
abbrev pub alone_place : List Ty → ℕ → ℕ
alone_place Γ x = if is_sort (type_at Γ x) then 1 + sorts_before Γ x else 1 + (length (sort_variables Γ) + functional_before Γ x)

abbrev pub row_place : List Ty → ℕ → ℕ
row_place Γ x =
    if is_sort (type_at Γ x) then sorts_before Γ x else
    1 + (length (sort_variables Γ) + (length (functional_variables Γ) + products_before (length (sort_variables Γ)) Γ x))

-- where the monomial of the spot stands in the space
abbrev pub place : List Ty → Spot → ℕ
place Γ Constant = 0
place Γ (One x) = alone_place Γ x
place Γ (Two x y) = row_place Γ x + row_place Γ y

-- the number is this one, or the greatest that a machine word has where this one is greater
abbrev pub IsUpTo : ℕ → ℕ → Type 0
IsUpTo exact n = (n ≡ exact) ⊎ ((n ≡ 2 ^ 64 - 1) × (2 ^ 64 - 1 ≤ exact))

-- the places of the variable
pub record IsPlace (Γ : List Ty) (x : ℕ) (p : Place) : Type 0 where
  pub alone : IsUpTo (alone_place Γ x) p.alone
  pub row : IsUpTo (row_place Γ x) p.row

-- what is counted before the variable
pub record IsWalk (Γ : List Ty) (x : ℕ) (w : Walk) : Type 0 where
  pub sorts : IsUpTo (sorts_before Γ x) w.sorts
  pub functional : IsUpTo (1 + (length (sort_variables Γ) + functional_before Γ x)) w.functional
  pub row : IsUpTo (1 + (length (sort_variables Γ) + (length (functional_variables Γ) + products_before (length (sort_variables Γ))
      Γ x))) w.row

-- the places of all variables
abbrev pub ArePlaces : List Ty → List Place → Type 0
ArePlaces Γ places = (length places ≡ length Γ) × ((x : ℕ) (p : Place) → slice_get places x ≡ Some p → IsPlace Γ x p)
