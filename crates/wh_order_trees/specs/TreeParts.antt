-- What the code looks at in a tree over a signature, told by the tree that it stands for.
use Rattle.std.specs.Prelude.{ℕ, zero, suc, ◌≡◌, List, Option, Some, None, slice_get}
use Rattle.std.specs.Borrow.{Bor}
use Rattle.wh_types.specs.Ty.{Ty}
use Rattle.wh_types.specs.Erase.{ty}
use Rattle.wh_types.specs.declared.simple_type.SimpleType.{SimpleType}
use Rattle.wh_terms.specs.Tree.{Tm, fun, free, meta, lam, app, tms_of, head}
use Rattle.wh_terms.specs.Typing.{Symbols, Declared}
use Rattle.wh_order_path.specs.Heads.{arguments_of}
use Rattle.wh_order_trees.specs.declared.tree.Tree.{Tree}
use Rattle.wh_order_trees.specs.Trees.{tree, trees, IsOver, EachOver}

-- what trees are over: the types of symbols and marked symbols, and the meta-variables
pub record World : Type 0 where
  pub symbols : Symbols
  pub metas : List Declared

-- the tree, and each tree of a list, is over n symbols, those that are marked, and the meta-variables
abbrev pub Over : ℕ → World → Tree → Type 0
Over n w t = IsOver n w.symbols w.metas t

abbrev pub AllOver : ℕ → World → List Tree → Type 0
AllOver n w ts = EachOver n w.symbols w.metas ts

-- the list has the arguments of the spine that the tree is
abbrev pub HasArguments : Tree → List Tree → Type 0
HasArguments t ts = (n : ℕ) (w : World) → Over n w t → (arguments_of (tree n t) ≡ trees n ts) × AllOver n w ts

-- the tree at a place of a list, counted from 1
abbrev pub item_at : List Tm → ℕ → Option Tm
item_at ts zero = None
item_at ts (suc k) = slice_get ts k

-- the answer is the argument of the tree at a place, counted from 1
abbrev pub IsArgument : Tree → ℕ → Option (Bor Tree) → Type 0
IsArgument t place None = (n : ℕ) (w : World) → Over n w t → item_at (arguments_of (tree n t)) place ≡ None
IsArgument t place (Some u) = (n : ℕ) (w : World) → Over n w t → (item_at (arguments_of (tree n t)) place ≡ Some (tree n u.now)) × Over n w u.now

-- the type and the body of an abstraction
abbrev pub body_in : Tm → Option (Ty × Tm)
body_in (lam a t) = Some (a, t)
body_in _ = None

abbrev pub IsBody : Tree → Option (Bor SimpleType × Bor Tree) → Type 0
IsBody t None = (n : ℕ) (w : World) → Over n w t → body_in (tree n t) ≡ None
IsBody t (Some (a, u)) = (n : ℕ) (w : World) → Over n w t → (tree n t ≡ lam (ty a.now) (tree n u.now)) × Over n w u.now

-- the number of a free variable
abbrev pub number_in : Tm → Option ℕ
number_in (free x a) = Some x
number_in _ = None

-- a meta-variable and its arguments
abbrev pub IsMeta : Tm → Type 0
IsMeta (meta z ts) = Unit {0}
IsMeta _ = ⊥

abbrev pub IsMetaApplication : Tree → Option (ℕ × Bor (List Tree)) → Type 0
IsMetaApplication t None = (n : ℕ) (w : World) → Over n w t → IsMeta (tree n t) → ⊥
IsMetaApplication t (Some (z, ts)) = (n : ℕ) (w : World) → Over n w t → (tree n t ≡ meta z (tms_of (trees n ts.now))) × AllOver n w ts.now

-- an application, its head, which is no symbol, and its arguments
abbrev pub IsOtherSpine : Tm → Type 0
IsOtherSpine (app t u) = (f : ℕ) → head t ≡ fun f → ⊥
IsOtherSpine _ = ⊥

pub record IsApplied (t h : Tree) (ts : List Tree) (n : ℕ) (w : World) : Type 0 where
  pub spine_of : (u : Tm) × (v : Tm) × (tree n t ≡ app u v)
  pub head_of : head (tree n t) ≡ tree n h
  pub others : (f : ℕ) → tree n h ≡ fun f → ⊥
  pub alone : (u v : Tm) → tree n h ≡ app u v → ⊥
  pub items : arguments_of (tree n t) ≡ trees n ts
  pub head_over : Over n w h
  pub items_over : AllOver n w ts

abbrev pub IsApplication : Tree → Option (Bor Tree × Bor (List Tree)) → Type 0
IsApplication t None = (n : ℕ) (w : World) → Over n w t → IsOtherSpine (tree n t) → ⊥
IsApplication t (Some (h, ts)) = (n : ℕ) (w : World) → Over n w t → IsApplied t h.now ts.now n w
