-- Members of lists.
use Rattle.std.proofs.Common.{◌≡◌, ℕ, zero, suc, ◌<◌, List, [], ◌∷◌, length, map, get_or, ◌⊎◌, inl, inr, refl, sym, subst, arith}
use Rattle.std.specs.Prelude.{Contains}

pub none_there : {A : Type 0} (x : A) → Contains [] x → ⊥
none_there x (k, inside, e) = omega arith

pub at_head : {A : Type 0} (xs : List A) (x : A) → Contains (x ∷ xs) x
at_head xs x = (0, omega arith, refl)

pub behind : {A : Type 0} (xs : List A) (x y : A) → Contains xs y → Contains (x ∷ xs) y
behind xs x y (k, inside, e) = (suc k, omega arith, e)

pub head_or_behind : {A : Type 0} (xs : List A) (x y : A) → Contains (x ∷ xs) y → (x ≡ y) ⊎ Contains xs y
head_or_behind xs x y (zero, inside, e) = inl e
head_or_behind xs x y (suc k, inside, e) = inr (k, omega arith, e)

-- the image of a member
pub image_there : {A B : Type 0} (f : A → B) (xs : List A) (i : ℕ) (x : A) → i < length xs → x ≡ get_or xs i x → Contains (map f xs) (f x)
image_there f [] i x inside is = absurd (omega arith)
image_there f (y ∷ xs) zero x inside is = subst (λ z. Contains (map f (y ∷ xs)) (f z)) (sym is) (at_head (map f xs) (f y))
image_there f (y ∷ xs) (suc i) x inside is = behind (map f xs) (f y) (f x) (image_there f xs i x (omega arith) is)
