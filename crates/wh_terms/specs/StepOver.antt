-- Steps over any relation at the root, on raw bodies: what the rules of a system and a path order have in common.
use Rattle.std.specs.Prelude.{ℕ, ◌≡◌, List, []}
use Rattle.wh_types.specs.Ty.{Ty}
use Rattle.wh_terms.specs.Tree.{Tm, lam, app}
use Rattle.wh_terms.specs.Substitution.{act, opened}
use Rattle.wh_terms.specs.Sight.{IsTerm, LooseBelow}
use Rattle.wh_terms.specs.Typing.{Symbols, Typed}

-- `StepOver R t u`: t steps to u by R or by beta, at any place; no binder is opened (ours; the nameless form of the
-- steps of Kop 2012)
pub data StepOver (R : Tm → Tm → Type 0) : Tm → Tm → Type 0 where
  over_root : {t u : Tm} → R t u → StepOver R t u
  over_beta : {a : Ty} {t u v : Tm} → v ≡ opened u t → StepOver R (app (lam a t) u) v
  over_function : {t t' u : Tm} → StepOver R t t' → StepOver R (app t u) (app t' u)
  over_argument : {t u u' : Tm} → StepOver R u u' → StepOver R (app t u) (app t u')
  over_body : {a : Ty} {t t' : Tm} → StepOver R t t' → StepOver R (lam a t) (lam a t')

-- the trees that are put for loose variables are terms
abbrev pub AreTerms : (ℕ → Tm) → Type 0
AreTerms σ = (i : ℕ) → IsTerm (σ i)

-- the trees that are put for free variables are terms
abbrev pub AreFreeTerms : (ℕ → Ty → Tm) → Type 0
AreFreeTerms φ = (x : ℕ) (a : Ty) → IsTerm (φ x a)

-- a relation that each substitution of terms keeps
abbrev pub IsKept : (Tm → Tm → Type 0) → Type 0
IsKept R = (σ : ℕ → Tm) (φ : ℕ → Ty → Tm) (t u : Tm) → AreTerms σ → AreFreeTerms φ → R t u → R (act σ φ t) (act σ φ u)

-- a relation that keeps types
abbrev pub KeepsTypes : Symbols → (Tm → Tm → Type 0) → Type 0
KeepsTypes S R = (Γ : List Ty) (t u : Tm) (a : Ty) → R t u → Typed S [] Γ t a → Typed S [] Γ u a

-- a relation that brings no loose variable
abbrev pub KeepsLoose : (Tm → Tm → Type 0) → Type 0
KeepsLoose R = (k : ℕ) (t u : Tm) → R t u → LooseBelow k t → LooseBelow k u

-- a relation that keeps terms
abbrev pub KeepsTerms : (Tm → Tm → Type 0) → Type 0
KeepsTerms R = (t u : Tm) → R t u → IsTerm t → IsTerm u
