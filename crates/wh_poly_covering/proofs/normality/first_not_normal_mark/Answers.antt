use Rattle.std.proofs.Common.{refl, ap, sym, subst, ◌∙◌}
use Rattle.wh_types.specs.Erase.{tys}
use Rattle.wh_types.specs.Ty.{arguments}
use Rattle.wh_system.specs.SystemView.{system_data}
use Rattle.wh_pairs.proofs.ByPlace.{read_map, before_more, before_all, map_length}
use Rattle.wh_poly.specs.Polynomials.{Normal}
use Rattle.wh_poly.specs.Erase.{poly}
use Rattle.wh_polycheck.specs.Marks.{marked_types}
use Rattle.wh_polycheck.specs.SideResults.{mark, marks_of}
use Rattle.wh_polycheck.proofs.MoreInterpretations.{arguments_of_arrows}
use Rattle.wh_poly_covering.proofs.normality.first_not_normal_mark.Goals as goal

pub returns-then-not-is_normal : goal.returns-then-not-is_normal
returns-then-not-is_normal c =
    let d = system_data c.args.system.now in
    let x = c.mark-item.result in
    let scope = ap tys c.as_slice.ensures.value ∙ c.in_ok-scope.ensures ∙ ap arguments c.in_ok-kind.ensures ∙ arguments_of_arrows (marked_types d.symbols d.rules x.symbol) 0 in (
      c.loop-mark.mark-index,
      mark x,
      read_map mark c.args.marks.now c.loop-mark.mark-index x c.loop-mark-test.true c.mark-item.is,
      refl,
      λ normal. cc (c.is_normal.ensures.1 (subst (λ Γ. Normal Γ (poly x.poly)) (sym scope) normal), c.if-not-is_normal.true),
      c.loop-mark.invariant,
    )

pub loop-mark-preserved : goal.loop-mark-preserved
loop-mark-preserved c =
    let d = system_data c.args.system.now in
    let x = c.mark-item.result in
    let scope = ap tys c.as_slice.ensures.value ∙ c.in_ok-scope.ensures ∙ ap arguments c.in_ok-kind.ensures ∙ arguments_of_arrows (marked_types d.symbols d.rules x.symbol) 0 in
    before_more (λ u. Normal (marked_types d.symbols d.rules u.symbol) u.polynomial) (marks_of c.args.marks.now) c.loop-mark.mark-index (mark x) c.loop-mark.invariant
    (read_map mark c.args.marks.now c.loop-mark.mark-index x c.loop-mark-test.true c.mark-item.is)
    (subst (λ Γ. Normal Γ (poly x.poly)) scope (c.is_normal.ensures.0 c.if-not-is_normal.false))

pub returns : goal.returns
returns c m found =
    let d = system_data c.args.system.now in
    before_all (λ u. Normal (marked_types d.symbols d.rules u.symbol) u.polynomial) (marks_of c.args.marks.now) c.loop-mark.mark-index m c.loop-mark.invariant
    (map_length mark c.args.marks.now c.loop-mark.mark-index c.loop-mark-test.false) found
