use Rattle.std.proofs.Common.{◌++◌}
use Rattle.wh_terms.specs.Erase.{tm}
use Rattle.wh_order_demands.specs.Views.{items_data}
use Rattle.wh_order_demands.specs.Plans.{parts_data, left_parts}
use Rattle.wh_order_demands.proofs.PutLemmas.{PutLeft}
use Rattle.wh_order_demands.proofs.plan.put_left.Given as goal

abbrev pub invariant-loop-place : goal.invariant-loop-place
invariant-loop-place l =
    PutLeft (parts_data l.initial.parts.items ++ left_parts l.first l.second l.claim (items_data l.f.items.items) (tm l.right)) l.claim l.f.items.items (tm l.right) l.parts.items l.bit l.other l.place
