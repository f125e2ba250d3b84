-- One more element at the end of a list, and one written over.
use Rattle.std.proofs.Common.{◌≡◌, ℕ, zero, suc, ◌<◌, ◌⊎◌, inl, inr, List, [], ◌∷◌, ◌++◌, length, take, drop, Some, slice_get, refl, ap, sym, ◌∙◌, arith}
use Rattle.std.proofs.Math.ListN.{set, replicate}
use Rattle.std.proofs.Math.Seq.{take-length}
use Rattle.std.proofs.lemmas.List.{take-append-le}

pub push_old : {A : Type 0} (xs : List A) (x : A) (k : ℕ) (y : A) → slice_get xs k ≡ Some y → slice_get (xs ++ x ∷ []) k ≡ Some y
push_old [] x k y at = cc
push_old (z ∷ xs) x zero y at = at
push_old (z ∷ xs) x (suc k) y at = push_old xs x k y at

pub push_new : {A : Type 0} (xs : List A) (x : A) → slice_get (xs ++ x ∷ []) (length xs) ≡ Some x
push_new [] x = refl
push_new (z ∷ xs) x = push_new xs x

pub push_cases : {A : Type 0} (xs : List A) (x : A) (k : ℕ) (y : A) → slice_get (xs ++ x ∷ []) k ≡ Some y → (slice_get xs k ≡ Some y) ⊎ ((k ≡ length xs) × (y ≡ x))
push_cases [] x zero y at = inr (refl, cc)
push_cases [] x (suc k) y at = cc
push_cases (z ∷ xs) x zero y at = inl at
push_cases (z ∷ xs) x (suc k) y at = elim (push_cases xs x k y at) [
  | inl old ↦ inl old
  | inr new ↦ inr (ap suc new.0, new.1)
]

pub set_here : {A : Type 0} (xs : List A) (w : ℕ) (v : A) → w < length xs → slice_get (set xs w v) w ≡ Some v
set_here [] w v within = absurd (omega arith)
set_here (x ∷ xs) zero v within = refl
set_here (x ∷ xs) (suc w) v within = set_here xs w v (omega arith)

pub set_there : {A : Type 0} (xs : List A) (w x : ℕ) (v : A) → (w ≡ x → ⊥) → slice_get (set xs w v) x ≡ slice_get xs x
set_there [] w x v other = refl
set_there (y ∷ xs) zero zero v other = absurd (other refl)
set_there (y ∷ xs) zero (suc x) v other = refl
set_there (y ∷ xs) (suc w) zero v other = refl
set_there (y ∷ xs) (suc w) (suc x) v other = set_there xs w x v (λ same. other (ap suc same))

pub same_marks : {A : Type 0} (n : ℕ) (v : A) (k : ℕ) (w : A) → slice_get (replicate n v) k ≡ Some w → v ≡ w
same_marks zero v k w at = cc
same_marks (suc n) v zero w at = cc
same_marks (suc n) v (suc k) w at = same_marks n v k w at

-- what a vector holds, after a slice of all of it was lent and changed in place
pub lent_whole : {A : Type 0} (xs ys : List A) (n : ℕ) → n ≡ length xs → length ys ≡ length xs → take n (ys ++ drop (length ys) xs) ≡ ys
lent_whole xs ys n whole same =
    ap (λ k. take k (ys ++ drop (length ys) xs)) (whole ∙ sym same)
    ∙ take-append-le (length ys) ys (drop (length ys) xs) (omega arith)
    ∙ take-length ys
