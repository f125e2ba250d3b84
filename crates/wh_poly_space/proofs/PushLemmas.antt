-- Lists that grow by one element at the end, and what holds of each element by its place.
use Rattle.std.proofs.Common.{◌≡◌, ℕ, zero, suc, ◌⊎◌, inl, inr, List, [], ◌∷◌, ◌++◌, length, map, Some, slice_get, refl, ap, sym, subst, ◌∙◌}
use Rattle.std.proofs.lemmas.Option.{none-some}
use Rattle.std.proofs.lemmas.List.{map-append}

-- an element of a longer list is of the shorter one, or the last
pub slice_get_push : {A : Type 0} (xs : List A) (x : A) (i : ℕ) (y : A) → slice_get (xs ++ x ∷ []) i ≡ Some y → (slice_get xs i ≡ Some y) ⊎ ((i ≡ length xs) × (x ≡ y))
slice_get_push [] x zero y e = inr (refl, cc)
slice_get_push [] x (suc i) y e = absurd (none-some y e)
slice_get_push (z ∷ xs) x zero y e = inl e
slice_get_push (z ∷ xs) x (suc i) y e = elim (slice_get_push xs x i y e) [
  | inl before ↦ inl before
  | inr (last, same) ↦ inr (ap suc last, same)
]

-- P holds of each element and its place
abbrev pub EachAt : {A : Type 0} → (ℕ → A → Type 0) → List A → Type 0
EachAt P xs = (i : ℕ) (x : _) → slice_get xs i ≡ Some x → P i x

pub each_push : {A : Type 0} (P : ℕ → A → Type 0) (xs new : List A) (x : A) → new ≡ xs ++ x ∷ [] → EachAt P xs → P (length xs) x → EachAt P new
each_push {A} P xs new x is before here i y at = elim (slice_get_push xs x i y (sym (ap (λ (l : List A). slice_get l i) is) ∙ at)) [
  | inl there ↦ before i y there
  | inr (last, same) ↦ subst (P i) same (subst (λ (k : ℕ). P k x) (sym last) here)
]

-- so of a mapped list
pub map_push : {A B : Type 0} (f : A → B) (xs new : List A) (x : A) → new ≡ xs ++ x ∷ [] → map f new ≡ map f xs ++ f x ∷ []
map_push f xs new x is = ap (map f) is ∙ map-append f xs (x ∷ [])
