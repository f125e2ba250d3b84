use Rattle.std.proofs.Common.{drop}
use Rattle.wh_poly.specs.Erase.{poly, sum_of}
use Rattle.wh_poly.specs.Limits.{Overflows}
use Rattle.wh_poly_limits.proofs.limits.coefficients_fit.Given as goal

abbrev pub invariant-loop-item : goal.invariant-loop-item
invariant-loop-item l = Overflows (poly l.p) → Overflows (sum_of (drop l.item-index l.item-items))
