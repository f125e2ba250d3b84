-- Elements of lists by their places, and what holds of the elements before a place.
use Rattle.std.proofs.Common.{◌≡◌, ℕ, ◌+◌, ◌<◌, ◌≤◌, ◌⊎◌, inl, inr, List, length, map, get_or, Option, Some, None, slice_get, option_map, Contains, refl, ap, sym, subst, ◌∙◌, eq-or-lt_of_le, arith}
use Rattle.std.proofs.lemmas.Option.{slice_get-map, slice_get_read, slice_get_within, get_or_from_slice_get, slice_get-get_or}
use Rattle.std.proofs.lemmas.List.{length-map}

pub some_one : {A : Type 0} {o : Option A} {x y : A} → o ≡ Some x → o ≡ Some y → x ≡ y
some_one d e = cc

pub read : {A : Type 0} (xs : List A) (i : ℕ) (x : A) → i < length xs → x ≡ get_or xs i x → slice_get xs i ≡ Some x
read xs i x within e = slice_get_read xs (length xs) i x refl within e

pub read_map : {A B : Type 0} (f : A → B) (xs : List A) (i : ℕ) (x : A) → i < length xs → x ≡ get_or xs i x → slice_get (map f xs) i ≡ Some (f x)
read_map f xs i x within e = slice_get-map f xs i ∙ ap (option_map f) (read xs i x within e)

pub contains_at : {A : Type 0} (xs : List A) (i : ℕ) (x : A) → slice_get xs i ≡ Some x → Contains xs x
contains_at xs i x e = (i, slice_get_within xs i x e, get_or_from_slice_get xs i x x e)

pub place_of : {A : Type 0} (xs : List A) (x : A) → Contains xs x → (i : ℕ) × (slice_get xs i ≡ Some x)
place_of xs x (i, within, e) = (i, slice_get-get_or xs i x within ∙ ap Some e)

some_map : {A B : Type 0} (f : A → B) (o : Option A) (y : B) → option_map f o ≡ Some y → (x : A) × (o ≡ Some x) × (f x ≡ y)
some_map f (Some x) y e = (x, refl, cc)
some_map f None y e = cc

-- an element of a mapped list comes from one of the list
pub unmap : {A B : Type 0} (f : A → B) (xs : List A) (i : ℕ) (y : B) → slice_get (map f xs) i ≡ Some y → (x : A) × (slice_get xs i ≡ Some x) × (f x ≡ y)
unmap f xs i y e = some_map f (slice_get xs i) y (sym (slice_get-map f xs i) ∙ e)

pub remap : {A B : Type 0} (f : A → B) (xs : List A) (i : ℕ) (x : A) → slice_get xs i ≡ Some x → slice_get (map f xs) i ≡ Some (f x)
remap f xs i x e = slice_get-map f xs i ∙ ap (option_map f) e

-- Q holds of the elements before the place
abbrev pub Before : {A : Type 0} → (A → Type 0) → List A → ℕ → Type 0
Before {A} Q xs i = (k : ℕ) (x : A) → k < i → slice_get xs k ≡ Some x → Q x

pub same_or_below : (k i : ℕ) → k < i + 1 → (k ≡ i) ⊎ (k < i)
same_or_below k i below = let h : k ≤ i = omega arith in eq-or-lt_of_le h

pub before_none : {A : Type 0} (Q : A → Type 0) (xs : List A) → Before Q xs 0
before_none Q xs k x below e = absurd (omega arith)

pub before_more : {A : Type 0} (Q : A → Type 0) (xs : List A) (i : ℕ) (x : A) → Before Q xs i → slice_get xs i ≡ Some x → Q x → Before Q xs (i + 1)
before_more Q xs i x before at here k y below e = elim (same_or_below k i below) [
  | inl same ↦ subst Q (some_one at (sym (ap (slice_get xs) same) ∙ e)) here
  | inr less ↦ before k y less e
]

pub before_all : {A : Type 0} (Q : A → Type 0) (xs : List A) (i : ℕ) (x : A) → Before Q xs i → length xs ≤ i → Contains xs x → Q x
before_all Q xs i x before past found =
    let at = place_of xs x found in
    let within = slice_get_within xs at.0 x at.1 in
    before at.0 x (omega arith) at.1

-- the number at a place, as a loop over numbers reads it

pub number_at : (xs : List ℕ) (i : ℕ) → i < length xs → slice_get xs i ≡ Some (get_or xs i 0)
number_at xs i within = slice_get-get_or xs i 0 within

pub contains_number : (xs : List ℕ) (i : ℕ) → i < length xs → Contains xs (get_or xs i 0)
contains_number xs i within = contains_at xs i (get_or xs i 0) (number_at xs i within)

-- the element of a mapped list at a place, as a loop over the list reads it
pub map_at : {A B : Type 0} (f : A → B) (xs : List A) (i : ℕ) (d : A) → i < length xs → slice_get (map f xs) i ≡ Some (f (get_or xs i d))
map_at f xs i d within = remap f xs i (get_or xs i d) (slice_get-get_or xs i d within)

pub map_length : {A B : Type 0} (f : A → B) (xs : List A) (i : ℕ) → length xs ≤ i → length (map f xs) ≤ i
map_length f xs i past = omega (arith, length-map xs f)

pub map_within : {A B : Type 0} (f : A → B) (xs : List A) (i : ℕ) (y : B) → slice_get (map f xs) i ≡ Some y → i < length xs
map_within f xs i y e =
    let below = slice_get_within (map f xs) i y e in omega (arith, length-map xs f)
