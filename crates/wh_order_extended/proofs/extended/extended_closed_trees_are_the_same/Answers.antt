-- By a renaming past all types.
use Rattle.wh_order_extended.proofs.LongFree.{long_anywhere}
use Rattle.wh_order_extended.proofs.extended.extended_closed_trees_are_the_same.Goals as goal

pub returns : goal.returns
returns c S M Γ t a known metas p = long_anywhere S M known metas Γ t a p
