-- One factor is pushed, and one monomial with it.
use Rattle.std.proofs.Common.{ap, ◌∙◌}
use Rattle.wh_poly.specs.Polynomials.{no_factors, times}
use Rattle.wh_poly.specs.Erase.{atoms, polys, monomials, factors}
use Rattle.wh_poly.specs.declared.polynomial.Monomial.{out-roll-Monomial}
use Rattle.wh_poly.specs.declared.polynomial.Atom.{out-roll-Atom}
use Rattle.wh_poly.proofs.Pushes.{single_push, single_factor_push}
use Rattle.wh_poly.proofs.variables.one_factor.Goals as goal

pub returns : goal.returns
returns c =
    single_push c.push-2.new.self (monomials c.new-value.result) _ 1 (times c.args.head (polys c.args.args) no_factors) c.new-value.ensures c.in_ok-push-2.ensures.ok
    (ap (λ r. r.coefficient) (out-roll-Monomial _))
    (ap (λ r. atoms r.atoms) (out-roll-Monomial _)
    ∙ single_factor_push c.push.new.self (factors c.new-atoms.result) _ c.args.head (polys c.args.args) c.new-atoms.ensures c.in_ok-push.ensures.ok
    (ap (λ r. r.head) (out-roll-Atom _)) (ap (λ r. polys r.args) (out-roll-Atom _)))
