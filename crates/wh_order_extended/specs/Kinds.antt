-- The type of a tree, as a function: what a well-typed tree has, and some type for any other one.
use Rattle.std.specs.Prelude.{ℕ, zero, suc, ◌≡◌, List, [], ◌∷◌, length, Some, slice_get}
use Rattle.wh_types.specs.Ty.{Ty, sort, ◌⇒◌, SortsBelow}
use Rattle.wh_terms.specs.Tree.{Tm, bound, free, fun, meta, lam, app}
use Rattle.wh_terms.specs.Typing.{Symbols, Declared}
use Rattle.wh_terms.specs.Value.{Body}

-- a type by its number, and a sort past the end of the list (ours)
abbrev pub type_at : List Ty → ℕ → Ty
type_at [] i = sort 0
type_at (a ∷ Γ) zero = a
type_at (a ∷ Γ) (suc i) = type_at Γ i

-- what an application of a tree of the type has as its type (ours)
abbrev pub codomain : Ty → Ty
codomain (sort s) = sort s
codomain (a ⇒ b) = b

-- the type of the applications of a meta-variable by its number, and a sort past the end of the list (ours)
abbrev pub out_at : List Declared → ℕ → Ty
out_at [] z = sort 0
out_at (d ∷ M) zero = d.out
out_at (d ∷ M) (suc z) = out_at M z

-- the type that the tree has if it is well typed, where its loose variables have the types Γ (ours)
abbrev pub kind : Symbols → List Declared → List Ty → Tm → Ty
kind S M Γ (bound i) = type_at Γ i
kind S M Γ (free x a) = a
kind S M Γ (fun f) = type_at S.funs f
kind S M Γ (meta z ts) = out_at M z
kind S M Γ (lam a t) = a ⇒ kind S M (a ∷ Γ) t
kind S M Γ (app t u) = codomain (kind S M Γ t)

-- the sorts in the types of applications of declared meta-variables are sorts of S
abbrev pub KnowsMetas : Symbols → List Declared → Type 0
KnowsMetas S M = (z : ℕ) (d : Declared) → slice_get M z ≡ Some d → SortsBelow S.sorts d.out

-- the sorts in the types of their arguments are sorts of S
abbrev pub KnowsArguments : Symbols → List Declared → Type 0
KnowsArguments S M = (z : ℕ) (d : Declared) → slice_get M z ≡ Some d → (i : ℕ) (c : Ty) → slice_get d.args i ≡ Some c → SortsBelow S.sorts c

-- the type that takes arguments of these types and leads to b (ours)
abbrev pub arrows : List Ty → Ty → Ty
arrows [] b = b
arrows (c ∷ cs) b = c ⇒ arrows cs b

-- the bodies have as many parameters as their meta-variables have arguments (ours)
abbrev pub AreCounted : List Declared → (ℕ → Body) → Type 0
AreCounted M g = (z : ℕ) (d : Declared) → slice_get M z ≡ Some d → (g z).arity ≡ length d.args
