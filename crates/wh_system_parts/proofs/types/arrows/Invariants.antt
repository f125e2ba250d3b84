use Rattle.std.proofs.Common.{◌≡◌, length}
use Rattle.wh_types.specs.Erase.{ty, tys}
use Rattle.wh_system_parts.specs.Naming.{arrows_over}
use Rattle.wh_system_parts.proofs.types.arrows.Given as goal

abbrev pub invariant-loop-domain : goal.invariant-loop-domain
invariant-loop-domain l = arrows_over (tys l.left.items) (ty l.whole) ≡ arrows_over (tys l.initial.left.items) (ty l.initial.whole)

abbrev pub decreases-loop-domain : goal.decreases-loop-domain
decreases-loop-domain l = length l.left.items
