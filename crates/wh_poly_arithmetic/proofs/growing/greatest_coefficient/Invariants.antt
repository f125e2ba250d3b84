use Rattle.std.proofs.Common.{take}
use Rattle.wh_poly_arithmetic.specs.Growing.{HasCoefficientsUpTo}
use Rattle.wh_poly.specs.Erase.{sum_of}
use Rattle.wh_poly_arithmetic.proofs.growing.greatest_coefficient.Given as goal

abbrev pub invariant-loop-item : goal.invariant-loop-item
invariant-loop-item l = HasCoefficientsUpTo l.greatest (sum_of (take l.item-index l.item-items))
