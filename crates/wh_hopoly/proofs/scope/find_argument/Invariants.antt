use Rattle.std.proofs.Common.{◌≡◌, ◌+◌, length}
use Rattle.wh_types.specs.Erase.{ty}
use Rattle.wh_types.specs.Ty.{Ty, arguments}
use Rattle.wh_poly.specs.Polynomials.{HasType}
use Rattle.wh_hopoly.proofs.scope.find_argument.Given as goal

abbrev pub invariant-loop-here : goal.invariant-loop-here
invariant-loop-here l = record {
  found : (A : Ty) → HasType (arguments (ty l.here)) l.left A → HasType (arguments (ty l.kind)) l.i A;
  past : length (arguments (ty l.kind)) + l.left ≡ l.i + length (arguments (ty l.here));
}
