-- Spots that join one after another in the order of normal forms.
use Rattle.std.proofs.Common.{◌≡◌, ℕ, zero, suc, ◌+◌, ◌<◌, ◌≤◌, ◌⊎◌, inl, inr, List, [], ◌∷◌, ◌++◌, length, All, Contains, refl, ap, sym, subst, ◌∙◌, arith}
use Rattle.std.proofs.lemmas.List.Elements.{All-nil, All-head, All-tail, All-same, All-push, All-weaker, Contains-append_left, Contains-push}
use Rattle.wh_types.specs.Ty.{Ty}
use Rattle.wh_poly_space.specs.Spots.{IsSpot, first_of, second_of, IsBefore, Ascends, AreSpotsTo, AreAllSpots}
use Rattle.wh_poly_space.specs.declared.space.Spot.{Spot}
use Rattle.wh_poly_space.specs.declared.space.Spot.TheVariants.{Constant, One, Two}

less_or_same : (n b : ℕ) → n < suc b → (n < b) ⊎ (n ≡ b)
less_or_same zero zero less = inr refl
less_or_same zero (suc b) less = inl (omega arith)
less_or_same (suc n) zero less = absurd (omega (arith, less))
less_or_same (suc n) (suc b) less = elim (less_or_same n b (omega (arith, less))) [
  | inl under ↦ inl (omega (arith, under))
  | inr equal ↦ inr (ap suc equal)
]

-- a spot is told by its variables
pub one_spot : (s t : Spot) → first_of s ≡ first_of t → second_of s ≡ second_of t → s ≡ t
one_spot Constant Constant e f = refl
one_spot Constant (One y) e f = absurd (omega (arith, e))
one_spot Constant (Two y z) e f = absurd (omega (arith, e))
one_spot (One x) Constant e f = absurd (omega (arith, e))
one_spot (One x) (One y) e f = let same : x ≡ y = omega (arith, e) in ap One same
one_spot (One x) (Two y z) e f = absurd (omega (arith, f))
one_spot (Two x w) Constant e f = absurd (omega (arith, e))
one_spot (Two x w) (One y) e f = absurd (omega (arith, f))
one_spot (Two x w) (Two y z) e f =
    let a : x ≡ y = omega (arith, e) in let b : w ≡ z = omega (arith, f) in ap (λ x. Two x w) a ∙ ap (Two y) b

ascends_push : (xs : List Spot) (s : Spot) → Ascends xs → All (λ t. IsBefore t (first_of s) (second_of s)) xs → Ascends (xs ++ s ∷ [])
ascends_push [] s up before = (All-nil (λ t. IsBefore s (first_of t) (second_of t)), tt)
ascends_push (x ∷ xs) s (later, up) before = (
  All-push (λ t. IsBefore x (first_of t) (second_of t)) xs s later (All-head (λ t. IsBefore t (first_of s) (second_of s)) x xs before),
  ascends_push xs s up (All-tail (λ t. IsBefore t (first_of s) (second_of s)) x xs before),
)

before_more : (s : Spot) (a b : ℕ) → IsBefore s a b → IsBefore s a (suc b)
before_more s a b (inl less) = inl less
before_more s a b (inr (same, less)) = inr (same, omega (arith, less))

pub spots_none : (Γ : List Ty) (spots : List Spot) → spots ≡ [] → AreSpotsTo Γ 0 0 spots
spots_none Γ spots none = subst (AreSpotsTo Γ 0 0) (sym none) (record {
  are = All-nil (IsSpot Γ);
  ascends = tt;
  below = All-nil (λ s. IsBefore s 0 0);
  all = λ s is before. absurd (nothing s before);
})
  where
    nothing : (s : Spot) → IsBefore s 0 0 → ⊥
    nothing s (inl less) = omega (arith, less)
    nothing s (inr (same, less)) = omega (arith, less)

pub spots_push : (Γ : List Ty) (a b : ℕ) (xs new : List Spot) (s : Spot) → AreSpotsTo Γ a b xs → new ≡ xs ++ s ∷ [] → IsSpot Γ s → first_of s ≡ a → second_of s ≡ b
    → AreSpotsTo Γ a (suc b) new
spots_push Γ a b xs new s to pushed is first second = record {
  are = All-same (IsSpot Γ) new (xs ++ s ∷ []) pushed (All-push (IsSpot Γ) xs s to.are is);
  ascends = subst Ascends (sym pushed) (ascends_push xs s to.ascends (All-weaker (λ t. IsBefore t a b) (λ t. IsBefore t (first_of s) (second_of s)) (λ t below.
      subst (λ (a : ℕ). IsBefore t a (second_of s)) (sym first) (subst (λ (b : ℕ). IsBefore t a b) (sym second) below)) xs to.below));
  below = All-same (λ t. IsBefore t a (suc b)) new (xs ++ s ∷ []) pushed (All-push (λ t. IsBefore t a (suc b)) xs s
      (All-weaker (λ t. IsBefore t a b) (λ t. IsBefore t a (suc b)) (λ t before. before_more t a b before) xs to.below)
      (inr (first, omega (arith, second))));
  all = λ t is_t before. subst (λ (l : List Spot). Contains l t) (sym pushed) (there t is_t before);
}
  where
    there : (t : Spot) → IsSpot Γ t → IsBefore t a (suc b) → Contains (xs ++ s ∷ []) t
    there t is_t (inl less) = Contains-append_left xs (s ∷ []) t (to.all t is_t (inl less))
    there t is_t (inr (same, less)) = by (less_or_same (second_of t) b less)
      where
        by : (second_of t < b) ⊎ (second_of t ≡ b) → Contains (xs ++ s ∷ []) t
        by (inl under) = Contains-append_left xs (s ∷ []) t (to.all t is_t (inr (same, under)))
        by (inr equal) = subst (Contains (xs ++ s ∷ [])) (one_spot s t (first ∙ sym same) (second ∙ sym equal)) (Contains-push xs s)

-- no spot stands between the two places
pub spots_skip : (Γ : List Ty) (a b d : ℕ) (xs : List Spot) → AreSpotsTo Γ a b xs → b ≤ d
    → ((s : Spot) → IsSpot Γ s → first_of s ≡ a → second_of s < d → second_of s < b) → AreSpotsTo Γ a d xs
spots_skip Γ a b d xs to further none = record {
  are = to.are;
  ascends = to.ascends;
  below = All-weaker (λ t. IsBefore t a b) (λ t. IsBefore t a d) later xs to.below;
  all = λ t is before. to.all t is (sooner t is before);
}
  where
    later : (t : Spot) → IsBefore t a b → IsBefore t a d
    later t (inl less) = inl less
    later t (inr (same, less)) = inr (same, omega (arith, less, further))

    sooner : (t : Spot) → IsSpot Γ t → IsBefore t a d → IsBefore t a b
    sooner t is (inl less) = inl less
    sooner t is (inr (same, less)) = inr (same, none t is same less)

-- all spots with this first variable are there
pub spots_row : (Γ : List Ty) (a b : ℕ) (xs : List Spot) → AreSpotsTo Γ a b xs → ((s : Spot) → IsSpot Γ s → first_of s ≡ a → second_of s < b)
    → AreSpotsTo Γ (suc a) 0 xs
spots_row Γ a b xs to all = record {
  are = to.are;
  ascends = to.ascends;
  below = All-weaker (λ t. IsBefore t a b) (λ t. IsBefore t (suc a) 0) later xs to.below;
  all = λ t is before. to.all t is (sooner t is before);
}
  where
    later : (t : Spot) → IsBefore t a b → IsBefore t (suc a) 0
    later t (inl less) = inl (omega (arith, less))
    later t (inr (same, less)) = inl (omega (arith, same))

    sooner : (t : Spot) → IsSpot Γ t → IsBefore t (suc a) 0 → IsBefore t a b
    sooner t is (inr (same, less)) = absurd (omega (arith, less))
    sooner t is (inl less) = elim (less_or_same (first_of t) a less) [
      | inl under ↦ inl under
      | inr equal ↦ inr (equal, all t is equal)
    ]

-- the constant, and then the variable x alone

pub constant_row : (Γ : List Ty) (xs : List Spot) → AreSpotsTo Γ 0 1 xs → AreSpotsTo Γ 1 0 xs
constant_row Γ xs to = spots_row Γ 0 1 xs to only
  where
    only : (s : Spot) → IsSpot Γ s → first_of s ≡ 0 → second_of s < 1
    only Constant is same = omega arith
    only (One x) is same = absurd (omega (arith, same))
    only (Two x y) is same = absurd (omega (arith, same))

pub behind_alone : (Γ : List Ty) (x : ℕ) (xs : List Spot) → AreSpotsTo Γ (suc x) 1 xs → AreSpotsTo Γ (suc x) (suc (x + 1)) xs
behind_alone Γ x xs to = spots_skip Γ (suc x) 1 (suc (x + 1)) xs to (omega arith) none
  where
    none : (s : Spot) → IsSpot Γ s → first_of s ≡ suc x → second_of s < suc (x + 1) → second_of s < 1
    none Constant is same less = omega arith
    none (One y) is same less = omega arith
    none (Two y z) (before, within, apart) same less = absurd (omega (arith, before, same, less))

-- the row of a variable ends with the scope
pub row_ends : (Γ : List Ty) (x b : ℕ) (xs : List Spot) → length Γ < b → AreSpotsTo Γ (suc x) b xs → AreSpotsTo Γ (suc (suc x)) 0 xs
row_ends Γ x b xs past to = spots_row Γ (suc x) b xs to only
  where
    only : (s : Spot) → IsSpot Γ s → first_of s ≡ suc x → second_of s < b
    only Constant is same = omega (arith, past)
    only (One y) is same = omega (arith, past)
    only (Two y z) (before, within, apart) same = omega (arith, within, past)

-- two variables of one kind have no product
pub no_product : (Γ : List Ty) (x y : ℕ) (xs : List Spot) → (IsSpot Γ (Two x y) → ⊥) → AreSpotsTo Γ (suc x) (suc y) xs → AreSpotsTo Γ (suc x) (suc (suc y)) xs
no_product Γ x y xs never to = spots_skip Γ (suc x) (suc y) (suc (suc y)) xs to (omega arith) none
  where
    none : (s : Spot) → IsSpot Γ s → first_of s ≡ suc x → second_of s < suc (suc y) → second_of s < suc y
    none s is same less = elim (less_or_same (second_of s) (suc y) less) [
      | inl under ↦ under
      | inr equal ↦ absurd (never (subst (IsSpot Γ) (one_spot s (Two x y) same equal) is))
    ]

-- each spot stands before the end
pub all_there : (Γ : List Ty) (xs : List Spot) → AreAllSpots Γ xs → (s : Spot) → IsSpot Γ s → Contains xs s
all_there Γ xs to Constant is = to.all Constant is (inl (omega arith))
all_there Γ xs to (One x) within = to.all (One x) within (inl (omega (arith, within)))
all_there Γ xs to (Two x y) (less, within, apart) = to.all (Two x y) (less, within, apart) (inl (omega (arith, less, within)))
