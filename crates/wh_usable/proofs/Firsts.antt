-- The first number of a list that is that of an element with a property.
use Rattle.std.proofs.Common.{◌≡◌, ℕ, List, Some, slice_get, subst}
use Rattle.wh_pairs.proofs.ByPlace.{Before, some_one}
use Rattle.wh_usable.specs.Open.{IsFirstNot}

-- the element with this number is Q
abbrev pub IsAt : {A : Type 0} → (A → Type 0) → List A → ℕ → Type 0
IsAt {A} Q xs n = (x : A) → slice_get xs n ≡ Some x → Q x

pub is_at : {A : Type 0} (Q : A → Type 0) (xs : List A) (n : ℕ) (x : A) → slice_get xs n ≡ Some x → Q x → IsAt Q xs n
is_at Q xs n x at holds y there = subst Q (some_one at there) holds

pub first_not : {A : Type 0} (Q : A → Type 0) (xs : List A) (numbers : List ℕ) (i n : ℕ) (x : A) → slice_get numbers i ≡ Some n → slice_get xs n ≡ Some x
    → Before (IsAt Q xs) numbers i → (Q x → ⊥) → IsFirstNot Q xs numbers n
first_not Q xs numbers i n x there at before fails = record {
  place = i;
  there = there;
  fails = (x, at, fails);
  before = λ k m y less at_k at_m. before k m less at_k y at_m;
}
