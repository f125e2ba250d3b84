-- Whether two trees are the same, as a test.
use Rattle.std.specs.Prelude.{◌==◌, ◌&&◌, Bool, true, false, List, [], ◌∷◌}
use Rattle.wh_types.specs.Ty.{same_ty}
use Rattle.wh_terms.specs.Tree.{Tm, bound, free, fun, meta, lam, app, Tms, none, more}

-- the two trees are equal
abbrev mutual
  pub same : Tm → Tm → Bool
  same (bound i) (bound j) = i == j
  same (free x a) (free y b) = (x == y) && same_ty a b
  same (fun f) (fun g) = f == g
  same (meta z ts) (meta y us) = (z == y) && all_same ts us
  same (lam a t) (lam b u) = same_ty a b && same t u
  same (app t u) (app v w) = same t v && same u w
  same _ _ = false

  pub all_same : Tms → Tms → Bool
  all_same none none = true
  all_same (more t ts) (more u us) = same t u && all_same ts us
  all_same _ _ = false

-- the two lists of trees are equal
abbrev pub same_list : List Tm → List Tm → Bool
same_list [] [] = true
same_list (t ∷ ts) (u ∷ us) = same t u && same_list ts us
same_list _ _ = false
