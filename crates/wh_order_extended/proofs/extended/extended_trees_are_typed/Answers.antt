-- By induction on typing.
use Rattle.wh_order_extended.proofs.LongTyped.{long_typed}
use Rattle.wh_order_extended.proofs.extended.extended_trees_are_typed.Goals as goal

pub returns : goal.returns
returns c S M Γ t a known metas types p = long_typed S M known metas types p
