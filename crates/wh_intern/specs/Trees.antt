-- The tree that a number of a table stands for, and tables that grow.
use Rattle.std.specs.Prelude.{ℕ, ◌≡◌, ◌<◌, ◌≤◌, ◌⊎◌, List, [], ◌∷◌, ◌++◌, length, get_or, All, Contains, Some, slice_get}
use Rattle.wh_terms.specs.Tree.{Tm, Tms, none, more}
use Rattle.wh_terms.specs.Tree as t
use Rattle.wh_terms.specs.Measures.{size}
use Rattle.wh_intern.specs.Parts.{PartTree, bound, free, fun, meta, lam, app}

-- the tree at that number
abbrev pub tree_at : List Tm → ℕ → Tm
tree_at ts n = get_or ts n (t.bound 0)

abbrev pub trees_at : List Tm → List ℕ → Tms
trees_at ts [] = none
trees_at ts (n ∷ ns) = more (tree_at ts n) (trees_at ts ns)

-- the tree of a node whose parts are these trees
abbrev pub tree_of : List Tm → PartTree → Tm
tree_of ts (bound i) = t.bound i
tree_of ts (free x a) = t.free x a
tree_of ts (fun f) = t.fun f
tree_of ts (meta z ns) = t.meta z (trees_at ts ns)
tree_of ts (lam a n) = t.lam a (tree_at ts n)
tree_of ts (app m n) = t.app (tree_at ts m) (tree_at ts n)

-- the numbers of a node's parts
abbrev pub numbers : PartTree → List ℕ
numbers (meta z ns) = ns
numbers (lam a n) = n ∷ []
numbers (app m n) = m ∷ n ∷ []
numbers _ = []

-- the parts of a node are below k
abbrev pub Below : ℕ → PartTree → Type 0
Below k p = (n : ℕ) → Contains (numbers p) n → n < k

-- the trees of nodes behind these ones, each made of trees before it
abbrev pub grown : List Tm → List PartTree → List Tm
grown ts [] = ts
grown ts (p ∷ ps) = grown (ts ++ tree_of ts p ∷ []) ps

-- the parts of each node are below its own number
abbrev pub AreFounded : List PartTree → Type 0
AreFounded ps = (k : ℕ) (p : PartTree) → slice_get ps k ≡ Some p → Below k p

-- a tree is a part of another, or that one itself
abbrev mutual
  pub IsPart : Tm → Tm → Type 0
  IsPart s (t.meta z ts) = (s ≡ t.meta z ts) ⊎ IsPartOfSome s ts
  IsPart s (t.lam a u) = (s ≡ t.lam a u) ⊎ IsPart s u
  IsPart s (t.app u v) = (s ≡ t.app u v) ⊎ (IsPart s u ⊎ IsPart s v)
  IsPart s (t.bound i) = s ≡ t.bound i
  IsPart s (t.free x a) = s ≡ t.free x a
  IsPart s (t.fun f) = s ≡ t.fun f

  pub IsPartOfSome : Tm → Tms → Type 0
  IsPartOfSome s none = ⊥
  IsPartOfSome s (more u us) = IsPart s u ⊎ IsPartOfSome s us

-- new is old with at most n more trees behind it, each of which is P
pub record Adds (old new : List Tm) (P : Tm → Type 0) (n : ℕ) : Type 0 where
  pub parts : List Tm
  pub behind : new ≡ old ++ parts
  pub all : All P parts
  pub few : length parts ≤ n

-- the trees stay, and some parts of the tree came behind them, no more than it has places
abbrev pub Grows : List Tm → List Tm → Tm → Type 0
Grows old new t = Adds old new (λ s. IsPart s t) (size t)
