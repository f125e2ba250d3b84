-- What the walk that finds types knows: the types of the binders it has passed, and what it answers.
use Rattle.std.specs.Prelude.{List, map, reverse, Option, Some, None}
use Rattle.std.specs.Borrow.{Bor}
use Rattle.wh_types.specs.declared.simple_type.SimpleType.{SimpleType}
use Rattle.wh_types.specs.Erase.{ty}
use Rattle.wh_types.specs.Ty.{Ty}
use Rattle.wh_terms.specs.Tree.{Tm}
use Rattle.wh_terms.specs.Typing.{Symbols, Declared, Typed}

-- the answer is a type of the tree, or nothing where the tree has no type (ours)
abbrev pub TellsType : Symbols → List Declared → List Ty → Tm → Option SimpleType → Type 0
TellsType S M Γ t None = (a : Ty) → Typed S M Γ t a → ⊥
TellsType S M Γ t (Some a) = Typed S M Γ t (ty a)

-- the types of the binders passed, which are listed from the outermost on, as a tree's loose variables count them: the
-- nearest first (ours)
abbrev pub scope : List (Bor SimpleType) → List Ty
scope binders = reverse (map (λ kind. ty kind.now) binders)
