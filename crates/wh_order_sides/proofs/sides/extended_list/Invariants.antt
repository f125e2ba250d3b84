use Rattle.std.proofs.Common.{take}
use Rattle.wh_terms.specs.Erase.{declared_metas, symbols}
use Rattle.wh_order_sides.proofs.CallLemmas.{AreFirst}
use Rattle.wh_order_sides.proofs.sides.extended_list.Given as goal

abbrev pub invariant-loop-item : goal.invariant-loop-item
invariant-loop-item l = AreFirst (symbols l.signature) (declared_metas l.metas) (take l.item-index l.item-items) l.left l.results
