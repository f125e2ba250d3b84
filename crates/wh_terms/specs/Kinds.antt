-- The types of the binders that a walk has passed, as a scope.
use Rattle.std.specs.Prelude.{List, [], ◌∷◌}
use Rattle.std.specs.Borrow.{Bor}
use Rattle.wh_types.specs.Ty.{Ty}
use Rattle.wh_types.specs.Erase.{ty}
use Rattle.wh_types.specs.declared.simple_type.SimpleType.{SimpleType}

-- the types that a list of references leads to
abbrev pub kinds_of : List (Bor SimpleType) → List Ty
kinds_of [] = []
kinds_of (a ∷ kinds) = ty a.now ∷ kinds_of kinds
