use Rattle.std.proofs.Common.{◌≡◌, drop}
use Rattle.wh_types.specs.Erase.{tys}
use Rattle.wh_poly.specs.Arithmetic.{followed_by}
use Rattle.wh_poly.specs.Erase.{monomials, sum_of}
use Rattle.wh_poly_space.proofs.PickLemmas.{picked, chosen_by}
use Rattle.wh_poly_space.proofs.space.reading_of.Given as goal

abbrev pub invariant-loop-spot : goal.invariant-loop-spot
invariant-loop-spot l =
    followed_by (sum_of (monomials l.reading)) (picked (tys l.scope) (chosen_by (tys l.scope) l.coefficients) (drop l.spot-index l.spot-items))
    ≡ picked (tys l.scope) (chosen_by (tys l.scope) l.coefficients) l.spot-items
