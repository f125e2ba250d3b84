-- The scope that a chain of frames stands for.
use Rattle.std.specs.Prelude.{List, [], ◌∷◌, ◌++◌}
use Rattle.wh_types.specs.Ty.{Ty, arguments}
use Rattle.wh_types.specs.Erase.{ty, tys}
use Rattle.wh_hopoly.specs.declared.scope.Scope.{Scope}
use Rattle.wh_hopoly.specs.declared.scope.Scope.TheVariants.{Given, Wider', Bound'}

-- the types of the variables, those of the frames around first (ours)
abbrev pub scope_of : Scope → List Ty
scope_of (Given types) = tys types.now
scope_of (Wider' p around kind) = scope_of around ++ arguments (ty kind.now)
scope_of (Bound' p around kind) = scope_of around ++ ty kind.now ∷ []
