-- Filtered trees of the program without pointers: what tells them apart (ours).
use Rattle.std.specs.Prelude.{ℕ, List, [], ◌∷◌}
use Rattle.wh_types.specs.Ty.{Ty}
use Rattle.wh_types.specs.Erase.{ty}
use Rattle.wh_order_trees.specs.declared.tree.Tree.{Tree, Row_of-Tree, end_of-Tree, more_of-Tree}
use Rattle.wh_order_trees.specs.declared.tree.Tree.TheVariants.{Bound, Free, Meta', Sym', Mark', Lam', Apply'}

mutual
  pub data Plain : Type 0 where
    a_bound : (i : ℕ) → Plain
    a_free : (x : ℕ) (a : Ty) → Plain
    a_meta : (z : ℕ) (a : Ty) (ts : Plains) → Plain
    a_symbol : (f : ℕ) (ts : Plains) → Plain
    a_mark : (f : ℕ) (ts : Plains) → Plain
    a_lam : (a : Ty) (t : Plain) → Plain
    a_spine : (t : Plain) (ts : Plains) → Plain

  pub data Plains : Type 0 where
    no_trees : Plains
    more_trees : (t : Plain) (ts : Plains) → Plains

abbrev mutual
  pub plain : Tree → Plain
  plain (Bound i) = a_bound i
  plain (Free x a) = a_free x (ty a)
  plain (Meta' z a shape all) = a_meta z (ty a) (plain_row all)
  plain (Sym' f shape all) = a_symbol f (plain_row all)
  plain (Mark' f shape all) = a_mark f (plain_row all)
  plain (Lam' a p t) = a_lam (ty a) (plain t)
  plain (Apply' p t shape all) = a_spine (plain t) (plain_row all)

  pub plain_row : {m : _} → Row_of-Tree m → Plains
  plain_row end_of-Tree = no_trees
  plain_row (more_of-Tree t rest) = more_trees (plain t) (plain_row rest)

-- the trees of a list, without pointers
abbrev pub plains : List Tree → Plains
plains [] = no_trees
plains (t ∷ ts) = more_trees (plain t) (plains ts)
