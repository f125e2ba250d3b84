use Rattle.std.proofs.Common.{◌≡◌, ◌++◌, ◌<◌, List, [], length, ap, sym, refl, ◌∙◌, arith}
use Rattle.std.proofs.lemmas.List.{length-map}
use Rattle.wh_types.specs.Ty.{arguments}
use Rattle.wh_types.specs.Erase.{ty}
use Rattle.wh_types.specs.Limits.{greatest_size}
use Rattle.wh_terms.specs.Tree.{spine}
use Rattle.wh_terms.specs.Measures.{size}
use Rattle.wh_terms.specs.Erase.{declared_meta, declared_metas, rewrite_rule, symbols, tm}
use Rattle.wh_terms.specs.declared.rule.MetaDecl.{MetaDecl}
use Rattle.wh_order_extended.specs.Kinds.{kind}
use Rattle.wh_order_extended.specs.Long.{long}
use Rattle.wh_order_extended.specs.ExtendedSides.{added, added_from, extended_side}
use Rattle.wh_order_sides.specs.Room.{IsBuilt}
use Rattle.wh_order_sides.specs.RuleSides.{IsWideSide}
use Rattle.wh_order_sides.proofs.BuildLemmas.{passed_on}
use Rattle.wh_order_sides.proofs.SideLemmas.{side_built, side_wide}
use Rattle.wh_order_sides.proofs.sides.extended_side.Goals as goal

pub returns-in_err-built : goal.returns-in_err-built
returns-in_err-built c =
    let S = symbols c.args.signature.now in
    let r = rewrite_rule c.args.rule.now in
    let t = tm c.args.side.now in
    let a = ty c.in_ok-kind.kind in
    let M = declared_metas c.as_slice-3.result.now in
    let w = tm c.in_ok-whole.whole in
    let is : a ≡ kind S r.metas [] r.left = c.in_ok-kind.ensures ∙ ap (λ (ms : List MetaDecl). kind S (declared_metas ms) [] (tm c.args.rule.now.left)) c.as_slice.ensures in
    let more : M ≡ r.metas ++ added (arguments a) = ap declared_metas c.as_slice-3.ensures ∙ c.in_ok-metas.ensures ∙ ap (λ l. l ++ added (arguments a)) c.in_ok-copy_metas.ensures in
    let count : c.in_ok-first.first ≡ length r.metas =
    omega (arith, c.in_ok-first.ensures, ap length c.as_slice-2.ensures, length-map c.args.rule.now.metas declared_meta) in
    let whole : w ≡ spine t (added_from c.in_ok-first.first (arguments a)) = c.in_ok-whole.ensures ∙ ap (λ h. spine h (added_from c.in_ok-first.first (arguments a))) c.in_ok-copy_term.ensures in
    passed_on c.from_residual-in_err-built.result c.in_err-built.field-0.0 (IsBuilt greatest_size (long S M [] w)) (IsWideSide S r t)
    (greatest_size < size (long S M [] w)) (greatest_size < size (extended_side S r t)) c.from_residual-in_err-built.ensures.1 c.in_err-built.ensures
    (side_wide S r t M a c.in_ok-first.first w is more count whole)

pub returns : goal.returns
returns c =
    let S = symbols c.args.signature.now in
    let r = rewrite_rule c.args.rule.now in
    let t = tm c.args.side.now in
    let a = ty c.in_ok-kind.kind in
    let M = declared_metas c.as_slice-3.result.now in
    let w = tm c.in_ok-whole.whole in
    let is : a ≡ kind S r.metas [] r.left = c.in_ok-kind.ensures ∙ ap (λ (ms : List MetaDecl). kind S (declared_metas ms) [] (tm c.args.rule.now.left)) c.as_slice.ensures in
    let more : M ≡ r.metas ++ added (arguments a) = ap declared_metas c.as_slice-3.ensures ∙ c.in_ok-metas.ensures ∙ ap (λ l. l ++ added (arguments a)) c.in_ok-copy_metas.ensures in
    let count : c.in_ok-first.first ≡ length r.metas =
    omega (arith, c.in_ok-first.ensures, ap length c.as_slice-2.ensures, length-map c.args.rule.now.metas declared_meta) in
    let whole : w ≡ spine t (added_from c.in_ok-first.first (arguments a)) = c.in_ok-whole.ensures ∙ ap (λ h. spine h (added_from c.in_ok-first.first (arguments a))) c.in_ok-copy_term.ensures in
    side_built S r t M a c.in_ok-first.first w c.in_ok-built.built _ is more count whole c.in_ok-built.ensures refl (sym (ap declared_metas c.as_slice-3.ensures))
