use Rattle.std.proofs.Common.{drop}
use Rattle.wh_poly.specs.Polynomials.{Sorted}
use Rattle.wh_poly.specs.Erase.{sum_of}
use Rattle.wh_poly.proofs.standing.is_ascending.Given as goal

abbrev pub invariant-loop-i : goal.invariant-loop-i
invariant-loop-i l = Sorted (sum_of (drop l.i l.items)) → Sorted (sum_of l.items)
