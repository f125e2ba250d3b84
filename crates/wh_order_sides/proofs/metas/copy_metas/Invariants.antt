use Rattle.std.proofs.Common.{◌≡◌, take}
use Rattle.wh_terms.specs.Erase.{declared_metas}
use Rattle.wh_order_sides.proofs.metas.copy_metas.Given as goal

abbrev pub invariant-loop-declaration : goal.invariant-loop-declaration
invariant-loop-declaration l = declared_metas l.copies ≡ declared_metas (take l.declaration-index l.declaration-items)
