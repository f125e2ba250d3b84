use Rattle.std.proofs.Common.{◌≡◌, map, take}
use Rattle.wh_types.specs.Erase.{ty}
use Rattle.wh_types.specs.Ty.{arguments}
use Rattle.wh_order_space.specs.Spotted.{types_in}
use Rattle.wh_find_order.proofs.encoding.symbol_scopes.Given as goal

abbrev pub invariant-loop-kind : goal.invariant-loop-kind
invariant-loop-kind l = types_in l.scopes.items ≡ map (λ kind. arguments (ty kind)) (take l.kind-index l.kinds)
