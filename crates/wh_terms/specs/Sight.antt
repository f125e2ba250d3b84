-- What stands in a tree: loose variables, numbers of free variables, meta-variables.
use Rattle.std.specs.Prelude.{ℕ, ◌<◌, ◌+◌, ◌≡◌, ◌≢◌, ◌⊎◌}
use Rattle.wh_types.specs.Ty.{Ty}
use Rattle.wh_terms.specs.Tree.{Tm, bound, free, meta, lam, app, Tms, none, more}

-- each loose variable has a number below k; for k = 0 none is loose
abbrev mutual
  pub LooseBelow : ℕ → Tm → Type 0
  LooseBelow k (bound i) = i < k
  LooseBelow k (meta z ts) = AllLooseBelow k ts
  LooseBelow k (lam a t) = LooseBelow (k + 1) t
  LooseBelow k (app t u) = LooseBelow k t × LooseBelow k u
  LooseBelow k _ = Unit {0}

  pub AllLooseBelow : ℕ → Tms → Type 0
  AllLooseBelow k none = Unit {0}
  AllLooseBelow k (more t ts) = LooseBelow k t × AllLooseBelow k ts

-- no free variable in the tree has the number x, with any type: x is fresh for it
abbrev mutual
  pub Fresh : ℕ → Tm → Type 0
  Fresh x (free y a) = y ≢ x
  Fresh x (meta z ts) = AllFresh x ts
  Fresh x (lam a t) = Fresh x t
  Fresh x (app t u) = Fresh x t × Fresh x u
  Fresh x _ = Unit {0}

  pub AllFresh : ℕ → Tms → Type 0
  AllFresh x none = Unit {0}
  AllFresh x (more t ts) = Fresh x t × AllFresh x ts

-- the free variable with the number x and the type a is not in the tree
abbrev mutual
  pub Lacks : ℕ → Ty → Tm → Type 0
  Lacks x a (free y b) = y ≡ x → b ≡ a → ⊥
  Lacks x a (meta z ts) = AllLack x a ts
  Lacks x a (lam b t) = Lacks x a t
  Lacks x a (app t u) = Lacks x a t × Lacks x a u
  Lacks x a _ = Unit {0}

  pub AllLack : ℕ → Ty → Tms → Type 0
  AllLack x a none = Unit {0}
  AllLack x a (more t ts) = Lacks x a t × AllLack x a ts

-- there is no free variable in the tree
abbrev mutual
  pub NoFree : Tm → Type 0
  NoFree (free x a) = ⊥
  NoFree (meta z ts) = AllNoFree ts
  NoFree (lam a t) = NoFree t
  NoFree (app t u) = NoFree t × NoFree u
  NoFree _ = Unit {0}

  pub AllNoFree : Tms → Type 0
  AllNoFree none = Unit {0}
  AllNoFree (more t ts) = NoFree t × AllNoFree ts

-- there is no meta-variable in the tree: it is a term
abbrev pub IsTerm : Tm → Type 0
IsTerm (meta z ts) = ⊥
IsTerm (lam a t) = IsTerm t
IsTerm (app t u) = IsTerm t × IsTerm u
IsTerm _ = Unit {0}

-- the meta-variable z occurs in the tree
abbrev mutual
  pub Occurs : ℕ → Tm → Type 0
  Occurs z (meta y ts) = (y ≡ z) ⊎ OccursIn z ts
  Occurs z (lam a t) = Occurs z t
  Occurs z (app t u) = Occurs z t ⊎ Occurs z u
  Occurs z _ = ⊥

  pub OccursIn : ℕ → Tms → Type 0
  OccursIn z none = ⊥
  OccursIn z (more t ts) = Occurs z t ⊎ OccursIn z ts
