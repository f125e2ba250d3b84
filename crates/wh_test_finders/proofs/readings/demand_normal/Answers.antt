use Rattle.std.proofs.Common.{ap, subst, ◌∙◌, arith}
use Rattle.std.proofs.lemmas.Option.{slice_get_within}
use Rattle.wh_types.specs.Erase.{tys}
use Rattle.wh_types.specs.Ty.{arguments}
use Rattle.wh_pairs.proofs.ByPlace.{read_map, before_more, map_length}
use Rattle.wh_poly.specs.Polynomials.{Normal}
use Rattle.wh_hopoly.specs.Erase.{interpretation, interpretations}
use Rattle.wh_poly.specs.Erase.{poly}
use Rattle.wh_test_finders.proofs.readings.demand_normal.Goals as goal

pub loop-symbol-preserved : goal.loop-symbol-preserved
loop-symbol-preserved c =
    let x = c.symbol-item.result in
    let scope = ap tys c.as_slice.ensures.value ∙ c.in_ok-scope.ensures in
    before_more (λ u. Normal (arguments u.kind) u.polynomial) (interpretations c.args.symbols.now) c.loop-symbol.symbol-index (interpretation x)
    c.loop-symbol.invariant (read_map interpretation c.args.symbols.now c.loop-symbol.symbol-index x c.loop-symbol-test.true c.symbol-item.is)
    (subst (λ Γ. Normal Γ (poly x.poly)) scope (c.is_normal.ensures.0 c.if-not-is_normal.false))

pub returns : goal.returns
returns c = λ f s at.
    let past = map_length interpretation c.args.symbols.now c.loop-symbol.symbol-index c.loop-symbol-test.false in
    c.loop-symbol.invariant f s (omega (arith, past, slice_get_within (interpretations c.args.symbols.now) f s at)) at
