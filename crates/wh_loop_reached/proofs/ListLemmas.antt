-- Lists that grow at their end, and lists without doubles.
use Rattle.std.proofs.Common.{◌≡◌, ℕ, zero, suc, ◌+◌, ◌<◌, ◌≤◌, ◌⊎◌, inl, inr, List, [], ◌∷◌, ◌++◌, length, map, Some, None, slice_get, option_map, refl, ap, sym, ◌∙◌, arith}
use Rattle.std.specs.Prelude.{Contains, AllPairs}
use Rattle.std.proofs.lemmas.Option.{slice_get-map, slice_get_within, get_or_from_slice_get, slice_get_cases}

pub one_some : {A : Type 0} (x y : A) → Some x ≡ Some y → x ≡ y
one_some x y e = cc

pub no_some : {A : Type 0} (x : A) → None ≡ Some x → ⊥
no_some x e = absurd (cc)

pub get_front : {A : Type 0} (xs ys : List A) (i : ℕ) (x : A) → slice_get xs i ≡ Some x → slice_get (xs ++ ys) i ≡ Some x
get_front [] ys i x e = absurd (cc)
get_front (y ∷ xs) ys zero x e = e
get_front (y ∷ xs) ys (suc i) x e = get_front xs ys i x e

pub get_push : {A : Type 0} (xs : List A) (x : A) (k : ℕ) (y : A) → slice_get (xs ++ x ∷ []) k ≡ Some y → (slice_get xs k ≡ Some y) ⊎ ((k ≡ length xs) × (y ≡ x))
get_push [] x zero y at = inr (refl, cc)
get_push [] x (suc k) y at = cc
get_push (z ∷ xs) x zero y at = inl at
get_push (z ∷ xs) x (suc k) y at = elim (get_push xs x k y at) [
  | inl old ↦ inl old
  | inr new ↦ inr (ap suc new.0, new.1)
]

pub contains_at : {A : Type 0} (xs : List A) (i : ℕ) (x : A) → slice_get xs i ≡ Some x → Contains xs x
contains_at xs i x e = (i, slice_get_within xs i x e, get_or_from_slice_get xs i x x e)

pub at_contains : {A : Type 0} (xs : List A) (x : A) → Contains xs x → (i : ℕ) × (slice_get xs i ≡ Some x)
at_contains xs x (k, within, is) = elim (slice_get_cases xs k).1 [
  | inl (y, inside, here, read) ↦ (k, here ∙ ap Some (sym (get_or_from_slice_get xs k y x here) ∙ is))
  | inr (past, none) ↦ absurd (omega arith)
]

pub at_map : {A B : Type 0} (f : A → B) (xs : List A) (i : ℕ) (x : A) → slice_get xs i ≡ Some x → slice_get (map f xs) i ≡ Some (f x)
at_map f xs i x e = slice_get-map f xs i ∙ ap (option_map f) e

pub at_map_back : {A B : Type 0} (f : A → B) (xs : List A) (i : ℕ) (y : B) → slice_get (map f xs) i ≡ Some y → (x : A) × (slice_get xs i ≡ Some x) × (f x ≡ y)
at_map_back f [] i y e = absurd (no_some y e)
at_map_back f (x ∷ xs) zero y e = (x, refl, one_some (f x) y e)
at_map_back f (x ∷ xs) (suc i) y e = at_map_back f xs i y e

-- the list without the element at the place
without : {A : Type 0} → ℕ → List A → List A
without k [] = []
without zero (y ∷ ys) = ys
without (suc k) (y ∷ ys) = y ∷ without k ys

one_less : {A : Type 0} (ys : List A) (k : ℕ) (x : A) → slice_get ys k ≡ Some x → length (without k ys) + 1 ≡ length ys
unfolding without
one_less [] k x e = absurd (no_some x e)
one_less (y ∷ ys) zero x e = omega arith
one_less (y ∷ ys) (suc k) x e = omega (arith, one_less ys k x e)

still_there : {A : Type 0} (ys : List A) (k j : ℕ) (x y : A) → slice_get ys k ≡ Some x → slice_get ys j ≡ Some y → (x ≡ y → ⊥) → (i : ℕ) × (slice_get (without k ys) i ≡ Some y)
unfolding without
still_there [] k j x y e d other = absurd (no_some x e)
still_there (z ∷ ys) zero zero x y e d other = absurd (other (sym (one_some z x e) ∙ one_some z y d))
still_there (z ∷ ys) zero (suc j) x y e d other = (j, d)
still_there (z ∷ ys) (suc k) zero x y e d other = (0, d)
still_there (z ∷ ys) (suc k) (suc j) x y e d other = let (i, here) = still_there ys k j x y e d other in (suc i, here)

apart_head : {A : Type 0} (x : A) (xs : List A) → AllPairs (λ a b. a ≡ b → ⊥) (x ∷ xs) → (j : ℕ) (y : A) → slice_get xs j ≡ Some y → x ≡ y → ⊥
apart_head x xs apart j y e same =
    let within : j < length xs = slice_get_within xs j y e in
    apart 0 (suc j) x (omega arith) (omega arith) (same ∙ sym (get_or_from_slice_get xs j y x e))

apart_tail : {A : Type 0} (x : A) (xs : List A) → AllPairs (λ a b. a ≡ b → ⊥) (x ∷ xs) → AllPairs (λ a b. a ≡ b → ⊥) xs
apart_tail x xs apart i j d less within = apart (suc i) (suc j) d (omega arith) (omega arith)

-- a list without doubles is no longer than one that has its members
no_longer_at : {A : Type 0} (xs ys : List A) → AllPairs (λ a b. a ≡ b → ⊥) xs → ((i : ℕ) (x : A) → slice_get xs i ≡ Some x → (j : ℕ) × (slice_get ys j ≡ Some x)) → length xs ≤ length ys
no_longer_at [] ys apart has = omega arith
no_longer_at (x ∷ xs) ys apart has =
    let (k, here) = has 0 x refl in
    let rest = no_longer_at xs (without k ys) (apart_tail x xs apart) (λ i y e. let (j, there) = has (suc i) y e in still_there ys k j x y here there (apart_head x xs apart i y e)) in
    omega (arith, rest, one_less ys k x here)

pub no_longer : {A : Type 0} (xs ys : List A) → AllPairs (λ a b. a ≡ b → ⊥) xs → ((x : A) → Contains xs x → Contains ys x) → length xs ≤ length ys
no_longer xs ys apart has = no_longer_at xs ys apart (λ i x e. at_contains ys x (has x (contains_at xs i x e)))
