-- What stands for a variable that is replaced, and the scopes before and after.
use Rattle.std.specs.Prelude.{ℕ, ◌==◌, ◌≡◌, List, ◌∷◌, ◌++◌, length, if◌then◌else◌, Option, None, Some}
use Rattle.wh_types.specs.Ty.{Ty, sort, ◌⇒◌, arguments}
use Rattle.wh_types.specs.Erase.{ty}
use Rattle.wh_poly.specs.Polynomials.{Polynomial, Arguments, Normal}
use Rattle.wh_poly.specs.Arithmetic.{atom, multiply}
use Rattle.wh_poly.specs.Limits.{Exceeds}
use Rattle.wh_poly.specs.declared.polynomial.Poly.{Poly}
use Rattle.wh_hopoly.specs.Evaluation.{Run, one, next, type_at, down, without, widened, applied, apply_one, replace_arguments}
use Rattle.wh_hopoly.specs.Scopes.{scope_of}
use Rattle.wh_poly.specs.Erase.{poly}
use Rattle.wh_hopoly.specs.declared.replacing.Replacement.{Replacement}
use Rattle.wh_hopoly.specs.declared.replacing.Place.{Place}

-- what a factor headed by the variable becomes: the value, of this type and of a scope of length n, applied to its
-- arguments (Fuhs and Kop 2012)
abbrev pub head_by : Ty → ℕ → Polynomial → List Ty → Arguments → Run Polynomial
head_by A n g Δ ps = applied A Δ (widened n Δ g) ps

-- what a factor headed by the variable becomes, by the replacement that the program has (ours)
abbrev pub head_of : Replacement → List Ty → Arguments → Run Polynomial
head_of r = head_by (ty r.kind.now) r.variable (poly r.value.now)

-- what a factor becomes, once its arguments are replaced (Fuhs and Kop 2012)
abbrev pub replace_factor : (List Ty → Arguments → Run Polynomial) → ℕ → List Ty → ℕ → Arguments → Run Polynomial
replace_factor head v Γ x ps = next (replace_arguments head v Γ (type_at Γ x) ps)
    (λ qs. if x == v then head (without v Γ) qs else one (atom (down v x) qs))

-- the variable n has the type A between two parts of the scope Γ, it is gone from Δ, and the value g is normal where
-- A's arguments go on from the first part (ours)
pub record Replaces (A : Ty) (n : ℕ) (g : Polynomial) (Γ Δ : List Ty) : Type 0 where
  pub around : List Ty
  pub behind : List Ty
  pub before : Γ ≡ around ++ A ∷ behind
  pub after : Δ ≡ around ++ behind
  pub number : n ≡ length around
  pub normal : Normal (around ++ arguments A) g

-- the replacement fits the place, whose variables are counted (ours)
abbrev pub Fits : Replacement → Place → Type 0
Fits r place =
    Replaces (ty r.kind.now) r.variable (poly r.value.now) (scope_of place.inner) (scope_of place.outer)
    × (place.count ≡ length (scope_of place.inner))

-- a value of a functional type applied to a value of its first argument's type; a sort has no arguments, and the value
-- stays (ours)
abbrev pub apply_at : Ty → List Ty → Polynomial → Polynomial → Run Polynomial
apply_at (sort s) Γ g p = one g
apply_at (A ⇒ B) Γ g p = apply_one A B Γ g p

-- the type is functional, and p is normal for its first argument (ours)
abbrev pub NormalFor : List Ty → Ty → Polynomial → Type 0
NormalFor Γ (sort s) p = ⊥
NormalFor Γ (A ⇒ B) p = Normal (Γ ++ arguments A) p

-- the product p times the value of a run (ours)
abbrev pub product_with : Polynomial → Run Polynomial → Run Polynomial
product_with p run = next run (λ a. one (multiply p a))

-- the value that stands for the variable, in the scope without it (ours)
abbrev pub value_at : Replacement → Place → Polynomial
value_at r place = widened r.variable (scope_of place.outer) (poly r.value.now)

-- what is kept, if anything, is that value, and it is within the limits (ours)
abbrev pub Keeps : Option Poly → Replacement → Place → Type 0
Keeps None r place = Unit {0}
Keeps (Some p) r place = (poly p ≡ value_at r place) × (Exceeds (poly p) → ⊥)
