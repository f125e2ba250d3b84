use Rattle.std.proofs.Common.{◌+◌, length}
use Rattle.wh_poly.specs.Arithmetic.{sum_poly}
use Rattle.wh_poly.specs.Erase.{poly, monomials}
use Rattle.wh_poly_arithmetic.proofs.MergeWalk.{Merging}
use Rattle.wh_poly_arithmetic.proofs.sums.merge.Given as goal

abbrev pub invariant-loop-ys : goal.invariant-loop-ys
invariant-loop-ys l = Merging (sum_poly (poly l.fn.a) (poly l.fn.b)) (monomials l.out) l.xs.items l.ys.items

abbrev pub decreases-loop-ys : goal.decreases-loop-ys
decreases-loop-ys l = length l.xs.items + length l.ys.items
