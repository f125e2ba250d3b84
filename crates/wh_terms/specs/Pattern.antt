-- Patterns, the left sides of rules: meta-variables stand there on distinct bound variables. A bound variable of a
-- pattern is one that the pattern binds: a tree with a loose variable is no pattern, since a match would not be unique.
use Rattle.std.specs.Prelude.{ℕ, ◌+◌, ◌<◌, ◌≢◌}
use Rattle.wh_terms.specs.Tree.{Tm, bound, free, fun, meta, lam, app, Tms, none, more}

-- each tree of the list is a variable of the k nearest binders
abbrev pub AllBoundBelow : ℕ → Tms → Type 0
AllBoundBelow k none = Unit {0}
AllBoundBelow k (more (bound i) ts) = (i < k) × AllBoundBelow k ts
AllBoundBelow k (more t ts) = ⊥

-- the bound variable i is not in the list
abbrev pub Misses : ℕ → Tms → Type 0
Misses i none = Unit {0}
Misses i (more (bound j) ts) = (i ≢ j) × Misses i ts
Misses i (more t ts) = Misses i ts

-- the bound variables of the list are distinct
abbrev pub Distinct : Tms → Type 0
Distinct none = Unit {0}
Distinct (more (bound i) ts) = Misses i ts × Distinct ts
Distinct (more t ts) = Distinct ts

-- a pattern is a meta-variable applied to distinct bound variables, or an abstraction over a pattern, or a symbol or
-- bound variable with patterns as its arguments (Fuhs and Kop 2019; that bound variables may be left out is ours).
-- k is the number of binders that the pattern stands under: a variable of these is bound, any other one is loose.
abbrev mutual
  pub IsPatternUnder : ℕ → Tm → Type 0
  IsPatternUnder k (meta z ts) = AllBoundBelow k ts × Distinct ts
  IsPatternUnder k (lam a t) = IsPatternUnder (k + 1) t
  IsPatternUnder k (bound i) = i < k
  IsPatternUnder k (fun f) = Unit {0}
  IsPatternUnder k (app t u) = IsPatternSpine k t × IsPatternUnder k u
  IsPatternUnder k (free x a) = ⊥

  -- a symbol or bound variable with patterns as its arguments
  pub IsPatternSpine : ℕ → Tm → Type 0
  IsPatternSpine k (bound i) = i < k
  IsPatternSpine k (fun f) = Unit {0}
  IsPatternSpine k (app t u) = IsPatternSpine k t × IsPatternUnder k u
  IsPatternSpine k _ = ⊥

abbrev pub IsPattern : Tm → Type 0
IsPattern = IsPatternUnder 0
