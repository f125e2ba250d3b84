use Rattle.std.proofs.Common.{arith, ap}
use Rattle.wh_terms.specs.Erase.{tm}
use Rattle.wh_terms.specs.Tree.{argument_count}
use Rattle.wh_access.proofs.PlaceLemmas.{arguments_nested}
use Rattle.wh_access.proofs.place.place_after.Goals as goal

pub overflow_add-index : goal.overflow_add-index
overflow_add-index c =
    omega (arith, c.loop-here.invariant.1, ap (λ t. argument_count (tm t)) c.in-App.is, arguments_nested (tm c.args.spine.now))
