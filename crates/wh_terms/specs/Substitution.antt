-- Substitution without capture, for loose and free variables at once, and opening as an instance of it.
-- A bound variable whose binder lies outside the tree is loose.
use Rattle.std.specs.Prelude.{ℕ, zero, suc}
use Rattle.wh_types.specs.Ty.{Ty}
use Rattle.wh_terms.specs.Tree.{Tm, bound, free, fun, meta, lam, app, Tms, none, more}

-- a renaming of loose variables, taken under a binder: the binder's own variable stays
unfoldable pub up_renaming : (ℕ → ℕ) → ℕ → ℕ
up_renaming ρ zero = zero
up_renaming ρ (suc i) = suc (ρ i)

-- the tree with its loose variables renamed
unfoldable mutual
  pub rename : (ℕ → ℕ) → Tm → Tm
  rename ρ (bound i) = bound (ρ i)
  rename ρ (free x a) = free x a
  rename ρ (fun f) = fun f
  rename ρ (meta z ts) = meta z (renames ρ ts)
  rename ρ (lam a t) = lam a (rename (up_renaming ρ) t)
  rename ρ (app t u) = app (rename ρ t) (rename ρ u)

  pub renames : (ℕ → ℕ) → Tms → Tms
  renames ρ none = none
  renames ρ (more t ts) = more (rename ρ t) (renames ρ ts)

-- new trees for the loose variables, taken under a binder: its own variable stays, and the trees are moved below it
unfoldable pub up : (ℕ → Tm) → ℕ → Tm
up σ zero = bound zero
up σ (suc i) = rename suc (σ i)

-- new trees for the free variables, taken under a binder
unfoldable pub up_free : (ℕ → Ty → Tm) → ℕ → Ty → Tm
up_free φ x a = rename suc (φ x a)

-- the tree with σ's trees for its loose variables and φ's for its free ones; nothing is captured
-- (parallel substitution of the nameless calculus; de Bruijn)
unfoldable mutual
  pub act : (ℕ → Tm) → (ℕ → Ty → Tm) → Tm → Tm
  act σ φ (bound i) = σ i
  act σ φ (free x a) = φ x a
  act σ φ (fun f) = fun f
  act σ φ (meta z ts) = meta z (acts σ φ ts)
  act σ φ (lam a t) = lam a (act (up σ) (up_free φ) t)
  act σ φ (app t u) = app (act σ φ t) (act σ φ u)

  pub acts : (ℕ → Tm) → (ℕ → Ty → Tm) → Tms → Tms
  acts σ φ none = none
  acts σ φ (more t ts) = more (act σ φ t) (acts σ φ ts)

-- u for the nearest loose variable; the others come one nearer
unfoldable pub cons : Tm → (ℕ → Tm) → ℕ → Tm
cons u σ zero = u
cons u σ (suc i) = σ i

-- the body of an abstraction with u for its variable
unfoldable pub opened : Tm → Tm → Tm
opened u t = act (cons u bound) free t
