use Rattle.wh_terms.specs.Erase.{declared_metas, symbols, tm}
use Rattle.wh_usable_first_order.specs.FirstOrder.{IsFlatTree}
use Rattle.wh_poly_flat.specs.Flat.{occurrences}
use Rattle.wh_poly_flat.proofs.RoomLemmas.{Passed}
use Rattle.wh_poly_flat.proofs.rooms.after_trees.Given as goal

abbrev pub invariant-loop-term : goal.invariant-loop-term
invariant-loop-term l =
    Passed (λ t. IsFlatTree (symbols l.fn.signature) (declared_metas l.fn.metas) (tm t)) (λ t. occurrences (tm t)) l.term-items l.fn.room l.term-index l.rest
