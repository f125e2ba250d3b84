-- A number above the numbers of all free variables of a tree.
use Rattle.std.specs.Prelude.{ℕ, ◌+◌, max}
use Rattle.wh_terms.specs.Tree.{Tm, free, meta, lam, app, Tms, none, more}

-- a number above all free variables: one more than the greatest number of one in the tree, or 0 where it has none
-- (ours)
abbrev mutual
  pub first_unused : Tm → ℕ
  first_unused (free x a) = x + 1
  first_unused (meta z ts) = all_first_unused ts
  first_unused (lam a t) = first_unused t
  first_unused (app t u) = max (first_unused t) (first_unused u)
  first_unused _ = 0

  pub all_first_unused : Tms → ℕ
  all_first_unused none = 0
  all_first_unused (more t ts) = max (first_unused t) (all_first_unused ts)
