-- There are as many weights as variables.
use Rattle.std.proofs.Common.{◌≡◌, length}
use Rattle.wh_poly_growth.proofs.refuting.is_refuted.Given as goal

abbrev pub invariant-loop-factor : goal.invariant-loop-factor
invariant-loop-factor l = length l.weights.items ≡ l.variables
