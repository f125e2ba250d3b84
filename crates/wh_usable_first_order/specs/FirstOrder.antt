-- First-order trees: symbols with arguments of sorts, and meta-variables without arguments.
use Rattle.std.specs.Prelude.{ℕ, ◌≡◌, List, [], ◌∷◌, Some, slice_get}
use Rattle.wh_types.specs.Ty.{Ty, sort, ◌⇒◌, arguments}
use Rattle.wh_terms.specs.Tree.{Tm, fun, meta, app, none}
use Rattle.wh_terms.specs.Typing.{Symbols, Declared}
use Rattle.wh_hopoly.specs.Evaluation.{type_at}

-- all types of the list are sorts
abbrev pub AreSorts : List Ty → Type 0
AreSorts [] = Unit {0}
AreSorts (sort s ∷ Γ) = AreSorts Γ
AreSorts ((a ⇒ b) ∷ Γ) = ⊥

-- all arguments of the symbol are of a sort
abbrev pub IsFirstOrder : Symbols → ℕ → Type 0
IsFirstOrder S f = AreSorts (arguments (type_at S.funs f))

-- the meta-variable takes no arguments, and is of a sort itself
abbrev pub IsNullary : List Declared → ℕ → Type 0
IsNullary M z = (s : ℕ) × (slice_get M z ≡ Some (record { args = []; out = sort s }))

abbrev mutual
  -- the tree is made of symbols whose arguments are all of a sort, and of meta-variables without arguments; nothing is
  -- abstracted
  pub IsFlatTree : Symbols → List Declared → Tm → Type 0
  IsFlatTree S M (fun f) = IsFirstOrder S f
  IsFlatTree S M (meta z none) = IsNullary M z
  IsFlatTree S M (app t u) = IsFlatTree S M t × IsFlatTree S M u
  IsFlatTree S M _ = ⊥

-- each tree of the list is flat
abbrev pub AreFlatTrees : Symbols → List Declared → List Tm → Type 0
AreFlatTrees S M [] = Unit {0}
AreFlatTrees S M (t ∷ ts) = IsFlatTree S M t × AreFlatTrees S M ts
