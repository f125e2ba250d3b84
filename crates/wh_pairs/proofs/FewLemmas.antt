-- Members of lists of one and of two.
use Rattle.std.proofs.Common.{◌≡◌, ℕ, zero, suc, inl, inr, [], ◌∷◌, Some, slice_get, All, Contains, refl, subst, arith}
use Rattle.std.proofs.lemmas.List.Elements.{All-from_recursion}
use Rattle.wh_pairs.proofs.MemberLemmas.{none_there, at_head, head_or_behind}

-- of one

pub in_one : {A : Type 0} (x y : A) → Contains (x ∷ []) y → x ≡ y
in_one x y there = elim (head_or_behind [] x y there) [
  | inl e ↦ e
  | inr never ↦ absurd (none_there y never)
]

pub from_one : {A : Type 0} (x y : A) → x ≡ y → Contains (x ∷ []) y
from_one x y e = subst (Contains (x ∷ [])) e (at_head [] x)

pub get_one : {A : Type 0} (x y : A) (n : ℕ) → slice_get (x ∷ []) n ≡ Some y → (n ≡ 0) × (x ≡ y)
get_one x y zero e = (refl, cc)
get_one x y (suc n) e = absurd (cc)

-- of two

pub each_of_two : {A : Type 0} (P : A → Type 0) (x y : A) → P x → P y → (z : A) → Contains (x ∷ y ∷ []) z → P z
each_of_two P x y first second z (zero, within, e) = subst P e first
each_of_two P x y first second z (suc zero, within, e) = subst P e second
each_of_two P x y first second z (suc (suc k), within, e) = absurd (omega arith)

pub all_of_two : {A : Type 0} (P : A → Type 0) (x y : A) → P x → P y → All P (x ∷ y ∷ [])
all_of_two P x y first second = All-from_recursion P (x ∷ y ∷ []) (first, (second, tt))

-- what holds at each of two places
pub get_two : {A : Type 0} (P : ℕ → A → Type 0) (x y : A) → P 0 x → P 1 y → (n : ℕ) (z : A) → slice_get (x ∷ y ∷ []) n ≡ Some z → P n z
get_two P x y first second zero z e = let same : x ≡ z = cc in subst (P 0) same first
get_two P x y first second (suc zero) z e = let same : y ≡ z = cc in subst (P 1) same second
get_two P x y first second (suc (suc n)) z e = absurd (cc)
