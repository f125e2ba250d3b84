use Rattle.std.proofs.Common.{◌≡◌, length, map, take}
use Rattle.wh_types.specs.Ty.{arguments}
use Rattle.wh_types.specs.Erase.{ty}
use Rattle.wh_poly_space.specs.Space.{space_of}
use Rattle.wh_poly_guesses.proofs.making.sizes_of_symbols.Given as goal

abbrev pub invariant-loop-kind : goal.invariant-loop-kind
invariant-loop-kind l = l.sizes.items ≡ map (λ kind. length (space_of (arguments (ty kind)))) (take l.kind-index l.kinds)
