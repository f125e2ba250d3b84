-- Filtered trees as the program makes them.
use Rattle.std.specs.Prelude.{ℕ, suc, ◌<◌, ◌≡◌, List, [], length, map}
use Rattle.wh_terms.specs.Tree.{Tm, fun, meta, lam, app, Tms, none, more, tms_of}
use Rattle.wh_terms.specs.Typing.{Symbols, Declared}
use Rattle.wh_terms.specs.Rules.{RewriteRule}
use Rattle.wh_order_extended.specs.Filtered.{collapsed, sift, symbol_arity}
use Rattle.wh_order_node.specs.Filterings.{FilteringData, filters_of, filtered_signature}
use Rattle.wh_order_trees.specs.declared.tree.Tree.{Tree}
use Rattle.wh_order_trees.specs.Trees.{trees, EachOver}
use Rattle.wh_order.specs.TreeSides.{AreFilters, IsTreeOf}

-- each symbol in the tree is one of S, and has all its arguments, where k more stand behind the tree (ours)
abbrev mutual
  pub IsWhole : Symbols → ℕ → Tm → Type 0
  IsWhole S k (fun f) = (f < length S.funs) × (k ≡ symbol_arity S f)
  IsWhole S k (app t u) = IsWhole S (suc k) t × IsWhole S 0 u
  IsWhole S k (lam a t) = IsWhole S 0 t
  IsWhole S k (meta z ts) = AreWhole S ts
  IsWhole S k _ = Unit {0}

  pub AreWhole : Symbols → Tms → Type 0
  AreWhole S none = Unit {0}
  AreWhole S (more t ts) = IsWhole S 0 t × AreWhole S ts

-- each tree of the program is over the signature of filtered trees, and over the meta-variables of these
abbrev pub AreOverFiltered : Symbols → List RewriteRule → FilteringData → List Declared → List Tree → Type 0
AreOverFiltered S rules D M us = EachOver (length S.funs) (filtered_signature S rules D) (collapsed M) us

-- each tree of the program is over the signature of filtered trees, and they stand for the trees ts
pub record AreTreesOf (S : Symbols) (rules : List RewriteRule) (D : FilteringData) (M : List Declared) (ts : List Tm) (us : List Tree) : Type 0 where
  pub same_trees : trees (length S.funs) us ≡ ts
  pub over : AreOverFiltered S rules D M us

-- u is the filtered tree of t with the filtered trees qs behind it, for all symbols and rules that the filters are for
abbrev pub IsSifted : FilteringData → List Declared → Tm → List Tree → Tree → Type 0
IsSifted D M t qs u = (S : Symbols) (rules : List RewriteRule) → AreFilters S rules D → IsWhole S (length qs) t → AreOverFiltered S rules D M qs
    → IsTreeOf S rules D M (sift (filters_of S D) t (trees (length S.funs) qs)) u

-- the trees us are the filtered trees of ts, for all symbols and rules that the filters are for
abbrev pub AreSifted : FilteringData → List Declared → List Tm → List Tree → Type 0
AreSifted D M ts us = (S : Symbols) (rules : List RewriteRule) → AreFilters S rules D → AreWhole S (tms_of ts)
    → AreTreesOf S rules D M (map (λ t. sift (filters_of S D) t []) ts) us
