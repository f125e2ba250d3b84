use Rattle.std.proofs.Common.{◌≡◌}
use Rattle.wh_types.specs.Erase.{ty}
use Rattle.wh_poly.specs.Erase.{poly, list, arguments_of}
use Rattle.wh_poly.proofs.Pushes.{arguments_followed_by}
use Rattle.wh_poly_space.specs.Space.{filled}
use Rattle.wh_poly_space.proofs.space.filled.Given as goal

abbrev pub invariant-loop-here : goal.invariant-loop-here
invariant-loop-here l = arguments_followed_by (arguments_of (list l.args)) (filled (poly l.sum) (ty l.here)) ≡ filled (poly l.sum) (ty l.kind)
