-- The value of a meta-term below binders that were passed, which no call opens.
use Rattle.std.specs.Prelude.{ℕ, ◌+◌, ◌≡◌}
use Rattle.wh_terms.specs.Tree.{Tm, bound, free, fun, meta, lam, app, Tms, none, more, count}
use Rattle.wh_terms.specs.Substitution.{act}
use Rattle.wh_terms.specs.Value.{Body, parameters}
use Rattle.wh_terms.specs.Under.{moved}

-- the value under g of a meta-term that stands below k binders: loose variables of a body, beyond its parameters, count
-- these k too (ours; the working form of `Value`)
abbrev mutual
  pub valued : ℕ → (ℕ → Body) → Tm → Tm
  valued k g (bound i) = bound i
  valued k g (free x a) = free x a
  valued k g (fun f) = fun f
  valued k g (meta z ts) = act (parameters (all_valued k g ts) (moved k)) free (g z).tree
  valued k g (lam a t) = lam a (valued (k + 1) g t)
  valued k g (app t u) = app (valued k g t) (valued k g u)

  pub all_valued : ℕ → (ℕ → Body) → Tms → Tms
  all_valued k g none = none
  all_valued k g (more t ts) = more (valued k g t) (all_valued k g ts)

-- each meta-variable has as many arguments as its body has parameters
abbrev mutual
  pub HasArities : (ℕ → Body) → Tm → Type 0
  HasArities g (meta z ts) = ((g z).arity ≡ count ts) × AllHaveArities g ts
  HasArities g (lam a t) = HasArities g t
  HasArities g (app t u) = HasArities g t × HasArities g u
  HasArities g _ = Unit {0}

  pub AllHaveArities : (ℕ → Body) → Tms → Type 0
  AllHaveArities g none = Unit {0}
  AllHaveArities g (more t ts) = HasArities g t × AllHaveArities g ts
