use Rattle.std.proofs.Common.{◌≡◌, drop}
use Rattle.wh_types.specs.Erase.{tys}
use Rattle.wh_poly.specs.Arithmetic.{followed_by}
use Rattle.wh_poly.specs.Erase.{monomials, sum_of}
use Rattle.wh_poly_space.specs.Space.{sort_variables, sum_of_variables}
use Rattle.wh_poly_space.proofs.BuildLemmas.{left_over}
use Rattle.wh_poly_space.proofs.space.sum_of_sorts.Given as goal

abbrev pub invariant-loop-x : goal.invariant-loop-x
invariant-loop-x l = followed_by (sum_of (monomials l.sum)) (left_over l.x (drop l.x l.scope)) ≡ sum_of_variables (sort_variables (tys l.scope))
