use Rattle.std.proofs.Common.{◌≡◌, ap, ◌∙◌, rules}
use Rattle.wh_poly.specs.Polynomials.{no_arguments}
use Rattle.wh_poly.specs.Erase.{atoms, polys, factors, arguments_of}
use Rattle.wh_poly.specs.declared.polynomial.Monomial.{out-roll-Monomial}
use Rattle.wh_poly.specs.declared.polynomial.Atom.{out-roll-Atom}
use Rattle.wh_poly.proofs.Lists.{polys_is}
use Rattle.wh_poly_space.proofs.BuildLemmas.{one_factor}
use Rattle.wh_poly_space.proofs.space.single.Goals as goal

pub returns-clause-factors : goal.returns-clause-factors
returns-clause-factors c =
    let head : c.in_ok-head.head ≡ c.args.x = search rules in
    ap (λ r. atoms r.atoms) (out-roll-Monomial _)
    ∙ one_factor c.push.new.self (factors c.new-atoms.result) _ c.args.x no_arguments c.new-atoms.ensures c.in_ok-push.ensures.ok
    (ap (λ r. r.head) (out-roll-Atom _) ∙ head) (ap (λ r. polys r.args) (out-roll-Atom _) ∙ polys_is c.new-args.result ∙ ap arguments_of c.new-args.ensures)
