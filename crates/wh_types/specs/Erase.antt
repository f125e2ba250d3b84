-- What a value of the program stands for: the tree without its pointers.
use Rattle.std.specs.Prelude.{List, map}
use Rattle.wh_types.specs.declared.simple_type.SimpleType.TheVariants.{Sort, Arrow'}
use Rattle.wh_types.specs.declared.simple_type.SimpleType.{SimpleType}
use Rattle.wh_types.specs.Ty.{Ty, sort, ◌⇒◌}

-- the type that a `SimpleType` stands for
abbrev pub ty : SimpleType → Ty
ty (Sort s) = sort s
ty (Arrow' _ a _ b) = ty a ⇒ ty b

-- the types that a list of `SimpleType`s stands for
abbrev pub tys : List SimpleType → List Ty
tys = map ty
