use Rattle.wh_terms.specs.Erase.{declared_metas, symbols, tm}
use Rattle.wh_pairs.proofs.ByPlace.{Before}
use Rattle.wh_usable_first_order.specs.FirstOrder.{IsFlatTree}
use Rattle.wh_usable.proofs.sides.are_flat.Given as goal

abbrev pub invariant-loop-item : goal.invariant-loop-item
invariant-loop-item l = Before (λ t. IsFlatTree (symbols l.signature) (declared_metas l.metas) (tm t)) l.items l.item-index
