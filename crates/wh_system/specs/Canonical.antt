-- The canonical raw trees of types and terms (ours): the trees that their canonical texts say. All offsets are 0.
use Rattle.std.specs.Prelude.{ℕ, ◌+◌, ◌-◌, ◌<◌, List, [], length, get_or}
use Rattle.wh_types.specs.Ty.{Ty, sort, ◌⇒◌, result_sort, SortsBelow}
use Rattle.wh_terms.specs.Tree.{Tm, bound, free, fun, meta, lam, app, Tms, none as no_tms, more as more_tms}
use Rattle.wh_text.specs.RawTree.{RTy, raw_type, RTys, no_types, more_types, numbered_binder, RTm, named, numbered, free_variable, meta as raw_meta, lam as raw_lam, spine, RTms, none, more}

-- the names of sorts, symbols and meta-variables, by their numbers
pub record Names : Type 0 where
  pub sorts : List (List ℕ)
  pub funs : List (List ℕ)
  pub metas : List (List ℕ)

abbrev pub name_at : List (List ℕ) → ℕ → List ℕ
name_at names k = get_or names k []

-- a type: the raw types of its arguments, then the name of its result's sort
abbrev mutual
  pub raw_type_of : List (List ℕ) → Ty → RTy
  raw_type_of sorts (sort s) = raw_type no_types (name_at sorts s) 0
  raw_type_of sorts (a ⇒ b) = raw_type (more_types (raw_type_of sorts a) (raw_arguments_of sorts b)) (name_at sorts (result_sort b)) 0

  pub raw_arguments_of : List (List ℕ) → Ty → RTys
  raw_arguments_of sorts (sort s) = no_types
  raw_arguments_of sorts (a ⇒ b) = more_types (raw_type_of sorts a) (raw_arguments_of sorts b)

abbrev pub and_last : RTms → RTm → RTms
and_last none u = more u none
and_last (more t ts) u = more t (and_last ts u)

-- the tree with one argument more: a spine has its head and all its arguments in one list, and no spine as its head
abbrev pub with_argument : RTm → RTm → RTm
with_argument (spine h ts at) u = spine h (and_last ts u) at
with_argument h u = spine h (more u none) 0

-- a tree below d binders: a symbol or meta-variable by its name, a bound variable by the number of binders above its
-- own binder, a free variable by its number and type, the binder of an abstraction by d
abbrev mutual
  pub raw_below : Names → ℕ → Tm → RTm
  raw_below n d (bound i) = numbered (d - (i + 1)) 0
  raw_below n d (free x a) = free_variable x (raw_type_of n.sorts a) 0
  raw_below n d (fun f) = named (name_at n.funs f) 0
  raw_below n d (meta z no_tms) = named (name_at n.metas z) 0
  raw_below n d (meta z (more_tms t ts)) = raw_meta (name_at n.metas z) (more (raw_below n d t) (each_raw_below n d ts)) 0
  raw_below n d (lam a t) = raw_lam (numbered_binder d) (raw_type_of n.sorts a) (raw_below n (d + 1) t) 0
  raw_below n d (app t u) = with_argument (raw_below n d t) (raw_below n d u)

  pub each_raw_below : Names → ℕ → Tms → RTms
  each_raw_below n d no_tms = none
  each_raw_below n d (more_tms t ts) = more (raw_below n d t) (each_raw_below n d ts)

-- the canonical raw tree
abbrev pub raw_of : Names → Tm → RTm
raw_of n = raw_below n 0

-- all that stands in a tree below d binders has a name or a number: its sorts, symbols and meta-variables, and its
-- bound variables, each of which has its binder in the tree or among the d
abbrev mutual
  pub IsNamedBelow : Names → ℕ → Tm → Type 0
  IsNamedBelow n d (bound i) = i < d
  IsNamedBelow n d (free x a) = SortsBelow (length n.sorts) a
  IsNamedBelow n d (fun f) = f < length n.funs
  IsNamedBelow n d (meta z ts) = (z < length n.metas) × AreNamedBelow n d ts
  IsNamedBelow n d (lam a t) = SortsBelow (length n.sorts) a × IsNamedBelow n (d + 1) t
  IsNamedBelow n d (app t u) = IsNamedBelow n d t × IsNamedBelow n d u

  pub AreNamedBelow : Names → ℕ → Tms → Type 0
  AreNamedBelow n d no_tms = Unit {0}
  AreNamedBelow n d (more_tms t ts) = IsNamedBelow n d t × AreNamedBelow n d ts

-- types after types
abbrev pub join_types : RTys → RTys → RTys
join_types no_types bs = bs
join_types (more_types a as_well) bs = more_types a (join_types as_well bs)
