-- The test whether two types are equal.
use Rattle.std.proofs.Common.{◌≡◌, ℕ, Bool, true, false, refl, ap, ap₂, ◌∙◌, eqb-true, eq-eqb}
use Rattle.std.specs.Prelude.{◌==◌, ◌&&◌}
use Rattle.wh_types.specs.Ty.{Ty, sort, ◌⇒◌, same_ty}

pub same_ty-self : (a : Ty) → same_ty a a ≡ true
same_ty-self (sort s) = eq-eqb s s refl
same_ty-self (a ⇒ b) = ap₂ (λ x y. x && y) (same_ty-self a) (same_ty-self b)

both-true : (x y : Bool) → (x && y) ≡ true → (x ≡ true) × (y ≡ true)
both-true true y e = (refl, e)
both-true false y e = absurd (cc)

pub same_ty-equal : (a b : Ty) → same_ty a b ≡ true → a ≡ b
same_ty-equal (sort s) (sort t) e = ap sort (eqb-true s t e)
same_ty-equal (sort s) (c ⇒ d) e = absurd (cc)
same_ty-equal (a ⇒ b) (sort t) e = absurd (cc)
same_ty-equal (a ⇒ b) (c ⇒ d) e =
    let both = both-true (same_ty a c) (same_ty b d) e in ap₂ (λ x y. x ⇒ y) (same_ty-equal a c both.0) (same_ty-equal b d both.1)

-- the test for one free variable: its number and its type
pub variable-same : (x : ℕ) (a : Ty) (y : ℕ) (b : Ty) → y ≡ x → b ≡ a → ((y == x) && same_ty b a) ≡ true
variable-same x a y b e f = ap₂ (λ p q. p && q) (eq-eqb y x e) (ap (λ c. same_ty c a) f ∙ same_ty-self a)

pub variable-equal : (x : ℕ) (a : Ty) (y : ℕ) (b : Ty) → ((y == x) && same_ty b a) ≡ true → (y ≡ x) × (b ≡ a)
variable-equal x a y b e =
    let both = both-true (y == x) (same_ty b a) e in (eqb-true y x both.0, same_ty-equal b a both.1)

pub variable-other : (x : ℕ) (a : Ty) (y : ℕ) (b : Ty) → (y ≡ x → b ≡ a → ⊥) → ((y == x) && same_ty b a) ≡ false
variable-other x a y b h = go ((y == x) && same_ty b a) refl
  where
    go : (t : Bool) → ((y == x) && same_ty b a) ≡ t → ((y == x) && same_ty b a) ≡ false
    go true e = let both = variable-equal x a y b e in absurd (h both.0 both.1)
    go false e = e
