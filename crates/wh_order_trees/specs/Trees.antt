-- What a filtered tree of the program stands for, and when it is one over a signature.
use Rattle.std.specs.Prelude.{ℕ, zero, suc, ◌+◌, ◌<◌, ◌≡◌, List, [], ◌∷◌, length, map}
use Rattle.wh_types.specs.Erase.{ty}
use Rattle.wh_types.specs.Ty.{Ty, sort}
use Rattle.wh_terms.specs.Tree.{Tm, bound, free, fun, meta, lam, tms_of, spine}
use Rattle.wh_terms.specs.Typing.{Symbols, Declared}
use Rattle.wh_order_extended.specs.Kinds.{type_at, out_at, codomain}
use Rattle.wh_order_trees.specs.declared.tree.Tree.{Tree, Row_of-Tree, end_of-Tree, more_of-Tree}
use Rattle.wh_order_trees.specs.declared.tree.Tree.TheVariants.{Bound, Free, Meta', Sym', Mark', Lam', Apply'}

-- the type of a spine with n arguments, where its head has this type
abbrev pub spine_type : Ty → ℕ → Ty
spine_type a zero = a
spine_type a (suc n) = spine_type (codomain a) n

-- There are n symbols, and the marked one of f has the number n + f.
module _ (n : ℕ) where
  abbrev mutual
    -- the tree that a `Tree` stands for
    pub tree : Tree → Tm
    tree (Bound i) = bound i
    tree (Free x a) = free x (ty a)
    tree (Meta' z a shape all) = meta z (tms_of (row all))
    tree (Sym' f shape all) = spine (fun f) (row all)
    tree (Mark' f shape all) = spine (fun (n + f)) (row all)
    tree (Lam' a p t) = lam (ty a) (tree t)
    tree (Apply' p t shape all) = spine (tree t) (row all)

    -- the trees of a node's arguments
    pub row : {m : _} → Row_of-Tree m → List Tm
    row end_of-Tree = []
    row (more_of-Tree t rest) = tree t ∷ row rest

  -- the trees that a list of `Tree`s stands for
  abbrev pub trees : List Tree → List Tm
  trees = map tree

-- the tree stands at the head of an application: it is no symbol and no application
abbrev pub IsHeadTree : Tree → Type 0
IsHeadTree (Sym' f shape all) = ⊥
IsHeadTree (Mark' f shape all) = ⊥
IsHeadTree (Apply' p t shape all) = ⊥
IsHeadTree _ = Unit {0}

module _ (n : ℕ) (F : Symbols) (M : List Declared) where
  -- a tree over the n symbols and the marked ones, which have the types in F, and over the meta-variables M: each
  -- symbol has all arguments that its type has and leads to the one sort, each meta-variable has its type of M, and an
  -- application has a head that is no application, and arguments (ours)
  abbrev mutual
    pub IsOver : Tree → Type 0
    IsOver (Bound i) = Unit {0}
    IsOver (Free x a) = Unit {0}
    IsOver (Meta' z a shape all) = (out_at M z ≡ ty a) × AreOver all
    IsOver (Sym' f shape all) = (f < n) × (spine_type (type_at F.funs f) (length (row n all)) ≡ sort 0) × AreOver all
    IsOver (Mark' f shape all) = (spine_type (type_at F.funs (n + f)) (length (row n all)) ≡ sort 0) × AreOver all
    IsOver (Lam' a p t) = IsOver t
    IsOver (Apply' p t shape all) = IsHeadTree t × (0 < length (row n all)) × IsOver t × AreOver all

    pub AreOver : {m : _} → Row_of-Tree m → Type 0
    AreOver end_of-Tree = Unit {0}
    AreOver (more_of-Tree t rest) = IsOver t × AreOver rest

  -- each tree of a list is over the signature
  abbrev pub EachOver : List Tree → Type 0
  EachOver [] = Unit {0}
  EachOver (t ∷ ts) = IsOver t × EachOver ts
