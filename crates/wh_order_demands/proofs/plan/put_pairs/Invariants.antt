use Rattle.std.proofs.Common.{◌++◌}
use Rattle.wh_order_demands.specs.Views.{items_data}
use Rattle.wh_order_demands.specs.Plans.{parts_data, pair_parts}
use Rattle.wh_order_demands.proofs.PutLemmas.{PutPairs}
use Rattle.wh_order_demands.proofs.plan.put_pairs.Given as goal

abbrev pub invariant-loop-place : goal.invariant-loop-place
invariant-loop-place l =
    PutPairs (parts_data l.initial.parts.items ++ pair_parts l.f.first l.second l.claim (items_data l.f.items.items) (items_data l.g.items.items)) l.claim l.f.items.items l.g.items.items
    l.parts.items l.bit l.other l.place
