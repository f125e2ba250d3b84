use Rattle.std.proofs.Common.{◌++◌}
use Rattle.wh_terms.specs.Erase.{tm}
use Rattle.wh_order_demands.specs.Views.{items_data}
use Rattle.wh_order_demands.specs.Plans.{parts_data, right_parts}
use Rattle.wh_order_demands.proofs.PutLemmas.{PutRight}
use Rattle.wh_order_demands.proofs.plan.put_right.Given as goal

abbrev pub invariant-loop-place : goal.invariant-loop-place
invariant-loop-place l =
    PutRight (parts_data l.initial.parts.items ++ right_parts l.first l.second l.claim (tm l.left) (items_data l.g.items.items)) l.claim (tm l.left) l.g.items.items l.parts.items l.bit l.other l.place
