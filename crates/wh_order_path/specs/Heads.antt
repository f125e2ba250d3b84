-- Heads and arguments of spines, and meta-variables below abstractions over all their arguments.
use Rattle.std.specs.Prelude.{ℕ, zero, suc, ◌≢◌, ◌⊎◌, List, [], ◌∷◌, ◌++◌}
use Rattle.wh_types.specs.Ty.{Ty}
use Rattle.wh_terms.specs.Tree.{Tm, bound, fun, lam, app, Tms, none, more}
use Rattle.wh_order_inference.specs.Inferences.{same_trees, Inferences, no_parts, more_parts, letter_of}

-- the tree may stand at the head of a spine and is no symbol
abbrev pub IsOtherHead : Tm → Type 0
IsOtherHead (fun f) = ⊥
IsOtherHead (app t u) = ⊥
IsOtherHead _ = Unit {0}

-- the arguments of the spine that a tree is
abbrev pub arguments_of : Tm → List Tm
arguments_of (app t u) = arguments_of t ++ u ∷ []
arguments_of _ = []

-- the arguments of a meta-application, as a list
abbrev pub list_of : Tms → List Tm
list_of none = []
list_of (more t ts) = t ∷ list_of ts

-- the variables of the n nearest binders, the outermost first
abbrev pub nearest : ℕ → Tms
nearest zero = none
nearest (suc n) = more (bound n) (nearest n)

-- t below abstractions over the types
abbrev pub abstracted : List Ty → Tm → Tm
abstracted [] t = t
abstracted (a ∷ cs) t = lam a (abstracted cs t)

-- some inference is not that of equal trees
abbrev pub SomeStrict : Inferences → Type 0
SomeStrict no_parts = ⊥
SomeStrict (more_parts i is) = (letter_of i ≢ same_trees) ⊎ SomeStrict is
