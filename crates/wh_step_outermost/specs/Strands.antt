-- The strand of a tree along a path: what of the tree a step at the end of the path depends on.
use Rattle.std.specs.Prelude.{ℕ, zero, suc, List, [], ◌∷◌}
use Rattle.wh_terms.specs.Tree.{Tm, fun, lam, app}

-- the tree along the path: the part at the path as it stands, and one symbol in place of each part that stands beside
-- the path (ours)
abbrev pub strand : List ℕ → Tm → Tm
strand [] t = t
strand (zero ∷ path) (app t u) = app (strand path t) (fun 0)
strand (suc d ∷ path) (app t u) = app (fun 0) (strand path u)
strand (d ∷ path) (lam a t) = lam a (strand path t)
strand (d ∷ path) t = t
