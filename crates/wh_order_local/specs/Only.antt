-- A property that all symbols of a tree have.
use Rattle.std.specs.Prelude.{ℕ}
use Rattle.wh_terms.specs.Tree.{Tm, fun, meta, lam, app, Tms, none, more}

-- each symbol in the tree has the property (ours)
abbrev mutual
  pub Only : (ℕ → Type 0) → Tm → Type 0
  Only P (fun f) = P f
  Only P (meta z ts) = AllOnly P ts
  Only P (lam a t) = Only P t
  Only P (app t u) = Only P t × Only P u
  Only P _ = Unit {0}

  pub AllOnly : (ℕ → Type 0) → Tms → Type 0
  AllOnly P none = Unit {0}
  AllOnly P (more t ts) = Only P t × AllOnly P ts
