use Rattle.std.proofs.Common.{take}
use Rattle.wh_types.specs.Erase.{ty}
use Rattle.wh_order.proofs.OpenLemmas.{OpensAll, KeepsSoFar}
use Rattle.wh_order.proofs.opened.+opening.Given as goal

abbrev pub invariant-open_each-loop-item : goal.invariant-open_each-loop-item
invariant-open_each-loop-item l =
    OpensAll l.number (ty l.kind) l.depth (take l.item-index l.item-items) l.results × KeepsSoFar l.item-items l.results
