use Rattle.std.proofs.Common.{length}
use Rattle.wh_poly.specs.Limits.{Exceeds}
use Rattle.wh_poly_arithmetic.specs.Totals.{total, Leaves}
use Rattle.wh_poly.specs.Erase.{poly}
use Rattle.wh_poly_arithmetic.proofs.TotalLaws.{Carrying}
use Rattle.wh_poly_arithmetic.proofs.totals.Total.finish.Given as goal

abbrev pub invariant-loop-alloc : goal.invariant-loop-alloc
invariant-loop-alloc l = record {
  carrying : Carrying (total l.fn.self) (poly l.value) l.rest.parts.items;
  weighed : Leaves l.rest.left (poly l.value) l.rest.parts.items;
  within : Exceeds (poly l.value) → ⊥;
}

abbrev pub decreases-loop-alloc : goal.decreases-loop-alloc
decreases-loop-alloc l = length l.rest.parts.items
