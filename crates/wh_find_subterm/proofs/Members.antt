-- Elements of lists that are joined, mapped and counted.
use Rattle.std.proofs.Common.{◌≡◌, ℕ, zero, suc, ◌+◌, ◌<◌, ◌⊎◌, inl, inr, List, [], ◌∷◌, ◌++◌, length, get_or, map, Contains, refl, sym, ap, subst, arith}
use Rattle.std.specs.List.{flat_map, range_with_len}

abbrev pub In : {A : Type 0} → A → List A → Type 0
In x [] = ⊥
In x (y ∷ ys) = (y ≡ x) ⊎ In x ys

pub in_left : {A : Type 0} (xs ys : List A) (x : A) → In x xs → In x (xs ++ ys)
in_left [] ys x is = absurd is
in_left (y ∷ xs) ys x (inl here) = inl here
in_left (y ∷ xs) ys x (inr later) = inr (in_left xs ys x later)

pub in_right : {A : Type 0} (xs ys : List A) (x : A) → In x ys → In x (xs ++ ys)
in_right [] ys x is = is
in_right (y ∷ xs) ys x is = inr (in_right xs ys x is)

pub in_either : {A : Type 0} (xs ys : List A) (x : A) → In x (xs ++ ys) → In x xs ⊎ In x ys
in_either [] ys x is = inr is
in_either (y ∷ xs) ys x (inl here) = inl (inl here)
in_either (y ∷ xs) ys x (inr later) = elim (in_either xs ys x later) [
  | inl left ↦ inl (inr left)
  | inr right ↦ inr right
]

pub in_map : {A B : Type 0} (f : A → B) (xs : List A) (x : A) → In x xs → In (f x) (map f xs)
in_map f [] x is = absurd is
in_map f (y ∷ xs) x (inl here) = inl (ap f here)
in_map f (y ∷ xs) x (inr later) = inr (in_map f xs x later)

pub in_map_from : {A B : Type 0} (f : A → B) (xs : List A) (y : B) → In y (map f xs) → (x : A) × In x xs × (f x ≡ y)
in_map_from f [] y is = absurd is
in_map_from f (x ∷ xs) y (inl here) = (x, inl refl, here)
in_map_from f (x ∷ xs) y (inr later) = let from = in_map_from f xs y later in (from.0, inr from.1, from.2)

pub in_flat : {A B : Type 0} (f : A → List B) (xs : List A) (x : A) (y : B) → In x xs → In y (f x) → In y (flat_map f xs)
in_flat f [] x y is at = absurd is
in_flat f (z ∷ xs) x y (inl here) at = in_left (f z) (flat_map f xs) y (subst (λ w. In y (f w)) (sym here) at)
in_flat f (z ∷ xs) x y (inr later) at = in_right (f z) (flat_map f xs) y (in_flat f xs x y later at)

pub in_flat_from : {A B : Type 0} (f : A → List B) (xs : List A) (y : B) → In y (flat_map f xs) → (x : A) × In x xs × In y (f x)
in_flat_from f [] y is = absurd is
in_flat_from f (x ∷ xs) y is = elim (in_either (f x) (flat_map f xs) y is) [
  | inl here ↦ (x, inl refl, here)
  | inr later ↦ let from = in_flat_from f xs y later in (from.0, inr from.1, from.2)
]

pub in_range : (a n i : ℕ) → i < n → In (a + i) (range_with_len a n)
in_range a zero i less = absurd (omega arith)
in_range a (suc n) zero less = inl (omega arith)
in_range a (suc n) (suc i) less =
    let one : a + 1 + i ≡ a + suc i = omega arith in
    inr (subst (λ x. In x (range_with_len (a + 1) n)) one (in_range (a + 1) n i (omega arith)))

pub in_range_from : (a n x : ℕ) → In x (range_with_len a n) → (i : ℕ) × (i < n) × (x ≡ a + i)
in_range_from a zero x is = absurd is
in_range_from a (suc n) x (inl here) = (0, omega arith, omega (arith, here))
in_range_from a (suc n) x (inr later) = let from = in_range_from (a + 1) n x later in (suc from.0, omega (arith, from.1), omega (arith, from.2))

-- by place

pub place_in : {A : Type 0} (xs : List A) (k : ℕ) (d : A) → k < length xs → In (get_or xs k d) xs
place_in [] k d within = absurd (omega arith)
place_in (x ∷ xs) zero d within = inl refl
place_in (x ∷ xs) (suc k) d within = inr (place_in xs k d (omega arith))

pub in_place : {A : Type 0} (xs : List A) (x : A) → In x xs → (k : ℕ) × (k < length xs) × ((d : A) → get_or xs k d ≡ x)
in_place [] x is = absurd is
in_place (y ∷ xs) x (inl here) = (0, omega arith, λ d. here)
in_place (y ∷ xs) x (inr later) = let at = in_place xs x later in (suc at.0, omega (arith, at.1), at.2)

pub contains_in : {A : Type 0} (xs : List A) (x : A) → Contains xs x → In x xs
contains_in xs x (k, within, at) = subst (λ y. In y xs) at (place_in xs k x within)

pub in_contains : {A : Type 0} (xs : List A) (x : A) → In x xs → Contains xs x
in_contains xs x is = let at = in_place xs x is in (at.0, at.1, at.2 x)
