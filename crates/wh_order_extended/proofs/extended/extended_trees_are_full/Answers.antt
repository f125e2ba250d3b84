-- By induction on typing.
use Rattle.wh_order_extended.proofs.Fullness.{full_long}
use Rattle.wh_order_extended.proofs.extended.extended_trees_are_full.Goals as goal

pub returns : goal.returns
returns c S M Γ t a p = full_long S p
