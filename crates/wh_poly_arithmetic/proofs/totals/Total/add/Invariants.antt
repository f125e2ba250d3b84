use Rattle.wh_poly.specs.Arithmetic.{sum_poly}
use Rattle.wh_poly_arithmetic.specs.Totals.{total, Leaves}
use Rattle.wh_poly.specs.Erase.{poly}
use Rattle.wh_poly_arithmetic.proofs.TotalLaws.{Carrying}
use Rattle.wh_poly_arithmetic.proofs.totals.Total.add.Given as goal

abbrev pub invariant-loop-left : goal.invariant-loop-left
invariant-loop-left l = record {
  carrying : Carrying (sum_poly (poly l.fn.value) (total l.initial.self)) (poly l.carried) l.self.parts.items;
  weighed : Leaves l.self.left (poly l.carried) l.self.parts.items;
}

abbrev pub decreases-loop-left : goal.decreases-loop-left
decreases-loop-left l = l.left
