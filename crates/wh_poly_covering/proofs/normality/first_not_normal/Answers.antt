use Rattle.std.proofs.Common.{ap, sym, subst, ◌∙◌}
use Rattle.wh_types.specs.Erase.{tys}
use Rattle.wh_types.specs.Ty.{arguments}
use Rattle.wh_pairs.proofs.ByPlace.{read_map, before_more, map_length}
use Rattle.wh_poly.specs.Polynomials.{Normal}
use Rattle.wh_hopoly.specs.Erase.{interpretation, interpretations}
use Rattle.wh_poly.specs.Erase.{poly}
use Rattle.wh_poly_covering.proofs.Walks.{at_each}
use Rattle.wh_poly_covering.proofs.normality.first_not_normal.Goals as goal

pub returns-then-not-is_normal : goal.returns-then-not-is_normal
returns-then-not-is_normal c =
    let x = c.index-symbols-i.result in
    let scope = ap tys c.as_slice.ensures.value ∙ c.in_ok-scope.ensures in (
      interpretation x,
      read_map interpretation c.args.symbols.now c.loop-i.i x c.loop-i-test.true c.index-symbols-i.is,
      λ normal. cc (c.is_normal.ensures.1 (subst (λ Γ. Normal Γ (poly x.poly)) (sym scope) normal), c.if-not-is_normal.true),
      c.loop-i.invariant,
    )

pub loop-i-preserved : goal.loop-i-preserved
loop-i-preserved c =
    let x = c.index-symbols-i.result in
    let scope = ap tys c.as_slice.ensures.value ∙ c.in_ok-scope.ensures in
    before_more (λ u. Normal (arguments u.kind) u.polynomial) (interpretations c.args.symbols.now) c.loop-i.i (interpretation x) c.loop-i.invariant
    (read_map interpretation c.args.symbols.now c.loop-i.i x c.loop-i-test.true c.index-symbols-i.is)
    (subst (λ Γ. Normal Γ (poly x.poly)) scope (c.is_normal.ensures.0 c.if-not-is_normal.false))

pub returns : goal.returns
returns c =
    at_each (λ u. Normal (arguments u.kind) u.polynomial) (interpretations c.args.symbols.now) c.loop-i.i c.loop-i.invariant
    (map_length interpretation c.args.symbols.now c.loop-i.i c.loop-i-test.false)
