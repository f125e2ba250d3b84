use Rattle.std.proofs.Common.{◌≡◌, ◌+◌, ◌*◌, take}
use Rattle.wh_terms.specs.Erase.{declared_metas, symbols, tm, tms}
use Rattle.wh_terms.specs.Scope.{scope}
use Rattle.wh_terms.proofs.TermLemmas.{weight, weights}
use Rattle.wh_order_extended.specs.Long.{cores}
use Rattle.wh_order_sides.specs.Room.{AreBuilt}
use Rattle.wh_order_sides.proofs.building.+building.Given as goal

-- an extended term is the core of the same term with its missing arguments: half a step
abbrev pub decreases-core_under : goal.decreases-core_under
decreases-core_under l = 2 * weight (tm l.term.now)

abbrev pub decreases-long_under : goal.decreases-long_under
decreases-long_under l = 2 * weight (tm l.term.now) + 1

abbrev pub decreases-argument_under : goal.decreases-argument_under
decreases-argument_under l = 2 * weight (tm l.term.now) + 1

abbrev pub decreases-cores_under : goal.decreases-cores_under
decreases-cores_under l = 2 * weights (tms l.items.now)

abbrev pub invariant-cores_under-loop-item : goal.invariant-cores_under-loop-item
invariant-cores_under-loop-item l = record {
  kept : l.binders.items ≡ l.initial.binders.items;
  built : AreBuilt l.room
      (cores (symbols l.signature) (declared_metas l.metas) (scope l.initial.binders.items) (tms (take l.item-index l.item-items)))
      (record { items = l.results; room = l.left });
}
