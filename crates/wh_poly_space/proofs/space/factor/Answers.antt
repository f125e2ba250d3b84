use Rattle.std.proofs.Common.{ap, sym, ◌∙◌}
use Rattle.wh_poly.specs.Erase.{poly, polys}
use Rattle.wh_poly.specs.declared.polynomial.Atom.{out-roll-Atom}
use Rattle.wh_poly_space.specs.Space.{filled}
use Rattle.wh_poly_space.proofs.SpaceLemmas.{type_there}
use Rattle.wh_poly_space.proofs.space.factor.Goals as goal

pub returns-clause-args : goal.returns-clause-args
returns-clause-args c =
    ap (λ r. polys r.args) (out-roll-Atom _) ∙ c.in_ok-args.ensures
    ∙ ap (filled (poly c.args.sum.now)) (sym (type_there c.args.scope.now c.args.x c.index-scope-x.result c.requires c.index-scope-x.is))
