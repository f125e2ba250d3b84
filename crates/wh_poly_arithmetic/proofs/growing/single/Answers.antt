-- All factors are put in order.
use Rattle.std.proofs.Common.{ap, ◌∙◌}
use Rattle.wh_poly.specs.Erase.{atoms, monomials, factors}
use Rattle.wh_poly.specs.Merges.{joined}
use Rattle.wh_poly.specs.declared.polynomial.Monomial.{out-roll-Monomial}
use Rattle.wh_poly.proofs.Pushes.{single_push}
use Rattle.wh_poly_arithmetic.proofs.growing.single.Goals as goal

pub returns : goal.returns
returns c =
    single_push c.push.new.self (monomials c.new-value.result) _ c.args.coefficient (joined (factors c.args.factors)) c.new-value.ensures c.in_ok-push.ensures.ok
    (ap (λ r. r.coefficient) (out-roll-Monomial _)) (ap (λ r. atoms r.atoms) (out-roll-Monomial _) ∙ c.in_ok-atoms.ensures)
