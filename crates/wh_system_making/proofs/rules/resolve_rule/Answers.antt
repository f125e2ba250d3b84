use Rattle.std.proofs.Common.{◌≡◌, List, [], ◌++◌, map, ap, sym, ◌∙◌}
use Rattle.wh_types.specs.Erase.{tys}
use Rattle.wh_terms.specs.Erase.{declared_metas}
use Rattle.wh_system_parts.specs.declared.parts.RawMeta.{RawMeta}
use Rattle.wh_system_parts.specs.Parts.{RMeta}
use Rattle.wh_system_parts.specs.Erase.{rrule, rmeta}
use Rattle.wh_system_parts.specs.Faults.{first_fault}
use Rattle.wh_system_parts.specs.Declarations.{meta_count}
use Rattle.wh_system_parts.specs.Naming.{Scope, meant}
use Rattle.wh_system_parts.specs.Tests.{meta_tests, side_tests}
use Rattle.wh_system_parts.specs.RuleTests.{declared_by, head_symbol}
use Rattle.wh_system_parts.proofs.FaultLemmas.{fault_after, fault_in_first, no_fault_in_first}
use Rattle.wh_system_making.specs.RulePasses.{IsResolvedRule, both_tests, form_tests, own_tests, scope_over, sides_tests}
use Rattle.wh_system_making.proofs.PassOrder.{handed}
use Rattle.wh_system_making.proofs.ScopeLemmas.{scope_with, scope_is, declared_along, small_side}
use Rattle.wh_system_making.proofs.rules.resolve_rule.Goals as goal

pub returns-in_err-metas : goal.returns-in_err-metas
returns-in_err-metas c =
    let S = c.args.sorts.now in
    let F = c.args.funs.now.names in
    let r = rrule c.args.raw.now in
    let s = scope_over S F (tys c.args.funs.now.kinds) r in
    let xs = c.as_slice.result.now in
    let D = meta_count r.metas ++ meta_tests S F [] r.metas in
    handed (meta_count (map rmeta xs) ++ meta_tests S F [] (map rmeta xs)) (own_tests s r) c.from_residual.result c.in_err-metas.field-0.0 _ (IsResolvedRule s r) c.from_residual.ensures.1
    (λ f e. fault_in_first D (both_tests s r) f (declared_along S F xs c.args.raw.now.metas c.as_slice.ensures ∙ e))
    c.in_err-metas.ensures

pub returns-in_err-left : goal.returns-in_err-left
returns-in_err-left c =
    let S = c.args.sorts.now in
    let F = c.args.funs.now.names in
    let K = tys c.args.funs.now.kinds in
    let r = rrule c.args.raw.now in
    let s = scope_over S F K r in
    let D = meta_count r.metas ++ meta_tests S F [] r.metas in
    let names = c.in_ok-metas.metas.names in
    let types = declared_metas c.in_ok-metas.metas.declared in
    let here = scope_with S F K names types in
    let same : here ≡ s = scope_is S F K r names types (c.in_ok-metas.ensures.1.0 ∙ ap (λ (ms : List RawMeta). map (λ (m : RMeta). m.name.name) (map rmeta ms)) c.as_slice.ensures)
    (c.in_ok-metas.ensures.1.1 ∙ ap (λ (ms : List RawMeta). map (declared_by S) (map rmeta ms)) c.as_slice.ensures) in
    handed (both_tests here r) (own_tests s r) c.from_residual-in_err-left.result c.in_err-left.field-0.0 _ (IsResolvedRule s r) c.from_residual-in_err-left.ensures.1
    (λ f e. fault_after D (both_tests s r) (declared_along S F c.as_slice.result.now c.args.raw.now.metas c.as_slice.ensures ∙ c.in_ok-metas.ensures.0) ∙ ap (λ (t : Scope). first_fault (both_tests t r)) (sym same) ∙ e)
    c.in_err-left.ensures

pub arguments_of-count-requires : goal.arguments_of-count-requires
arguments_of-count-requires c =
    let r = rrule c.args.raw.now in
    let here = scope_with c.args.sorts.now c.args.funs.now.names (tys c.args.funs.now.kinds) c.in_ok-metas.metas.names (declared_metas c.in_ok-metas.metas.declared) in
    let limits = no_fault_in_first (side_tests r.left ++ side_tests r.right) (sides_tests here r ++ form_tests here r) c.in_ok-left.ensures.0 in
    small_side r.left (no_fault_in_first (side_tests r.left) (side_tests r.right) limits)

pub returns : goal.returns
returns c =
    let S = c.args.sorts.now in
    let F = c.args.funs.now.names in
    let K = tys c.args.funs.now.kinds in
    let r = rrule c.args.raw.now in
    let s = scope_over S F K r in
    let D = meta_count r.metas ++ meta_tests S F [] r.metas in
    let names = c.in_ok-metas.metas.names in
    let types = declared_metas c.in_ok-metas.metas.declared in
    let here = scope_with S F K names types in
    let named = c.in_ok-metas.ensures.1.0 ∙ ap (λ (ms : List RawMeta). map (λ (m : RMeta). m.name.name) (map rmeta ms)) c.as_slice.ensures in
    let declared = c.in_ok-metas.ensures.1.1 ∙ ap (λ (ms : List RawMeta). map (declared_by S) (map rmeta ms)) c.as_slice.ensures in
    let same : here ≡ s = scope_is S F K r names types named declared in (
      fault_after D (both_tests s r) (declared_along S F c.as_slice.result.now c.args.raw.now.metas c.as_slice.ensures ∙ c.in_ok-metas.ensures.0)
          ∙ ap (λ (t : Scope). first_fault (both_tests t r)) (sym same) ∙ c.in_ok-left.ensures.0,
      record {
        metas = declared;
        left = ap (λ (t : Scope). meant t [] r.left) (sym same) ∙ c.in_ok-left.ensures.1.0;
        right = ap (λ (t : Scope). meant t [] r.right) (sym same) ∙ c.in_ok-left.ensures.1.1;
        head = ap (λ (t : Scope). head_symbol t r.left) (sym same) ∙ c.in_ok-left.ensures.1.2;
        count = c.arguments_of-count.ensures;
        names = c.in_ok-meta_names.ensures ∙ named;
      },
    )
