use Rattle.std.proofs.Common.{rules, map, true, ◌<◌, ◌+◌, ap₂, length, List, Option, Some, None, ℕ, ◌≡◌, [], ap, sym, ◌∙◌, subst}
use Rattle.std.proofs.lemmas.List.{length-map}
use Rattle.std.specs.Prelude.{slice_set, slice_index_or}
use Rattle.wh_types.specs.Erase.{ty, tys}
use Rattle.wh_system_parts.specs.declared.parts.RawRule.{RawRule}
use Rattle.wh_system_parts.specs.declared.fault.SystemFault.TheVariants.{UnevenRules}
use Rattle.wh_system_parts.specs.Parts.{RFun}
use Rattle.wh_system_parts.specs.Erase.{rparts, rrule}
use Rattle.wh_system_parts.specs.Faults.{first_fault}
use Rattle.wh_system_parts.specs.Naming.{Scope}
use Rattle.wh_system_parts.specs.Tests.{arguments_of, sort_names}
use Rattle.wh_system_parts.specs.RuleTests.{head_symbol, type_of_raw, is_uneven, scope_of, rules_tests}
use Rattle.wh_system_parts.proofs.DeclarationLemmas.{map_next}
use Rattle.wh_system_parts.proofs.PassLemmas.{fault_up}
use Rattle.wh_system_making.specs.RulePasses.{IsResolvedRule, own_tests, scope_over, differs}
use Rattle.wh_system_making.specs.RulesPassed.{AreResolvedRules}
use Rattle.wh_system_making.proofs.PassOrder.{handed}
use Rattle.wh_system_making.proofs.RuleSteps.{SoFar, none_so_far, one_more, all_said, head_inside, scope_said, rule_fails, rule_uneven, written_back}
use Rattle.wh_system_making.proofs.rules.resolve_rules.Goals as goal

pub loop-raw-init : goal.loop-raw-init
loop-raw-init c =
    let p = rparts c.args.parts.now in
    let kinds : length c.args.funs.now.kinds ≡ length p.funs = sym (length-map c.args.funs.now.kinds ty) ∙ ap length c.requires.kinds ∙ length-map p.funs (λ (f : RFun). type_of_raw (sort_names p) f.kind) in
    none_so_far p c.as_slice-raw-items.result.now (length c.as_slice.result.now) c.new-rules.result.items _ c.in_ok-needs.needs.items c.new-rules.ensures.items
    c.new-meta_names.ensures.items (c.in_ok-needs.ensures.items_if_clones_equal (λ y e. search rules)) (ap length c.as_slice.ensures ∙ kinds)

pub resolve_rule-requires : goal.resolve_rule-requires
resolve_rule-requires c =
    let p = rparts c.args.parts.now in
    ap length c.requires.funs ∙ length-map p.funs (λ (f : RFun). f.name.name) ∙ sym (length-map p.funs (λ (f : RFun). type_of_raw (sort_names p) f.kind)) ∙ sym (ap length c.requires.kinds)
    ∙ length-map c.args.funs.now.kinds ty

pub returns-in_err-resolved : goal.returns-in_err-resolved
returns-in_err-resolved c =
    let p = rparts c.args.parts.now in
    let xs = c.as_slice-raw-items.result.now in
    let i = c.loop-raw.raw-index in
    let r = rrule c.raw-item.result in
    let s = scope_over c.args.sorts.now c.args.funs.now.names (tys c.args.funs.now.kinds) r in
    let same : s ≡ scope_of p r = scope_said p r c.args.sorts.now c.args.funs.now.names (tys c.args.funs.now.kinds) c.requires.sorts c.requires.funs c.requires.kinds in
    handed (own_tests s r) (rules_tests p [] p.rules) c.from_residual-in_err-resolved.result c.in_err-resolved.field-0.0 _ (AreResolvedRules p) c.from_residual-in_err-resolved.ensures.1
    (λ f e. ap (λ (ys : List RawRule). first_fault (rules_tests p [] (map rrule ys))) (sym c.as_slice-raw-items.ensures) ∙ c.loop-raw.invariant.tests
    ∙ ap (λ rs. first_fault (rules_tests p c.loop-raw.invariant.earlier rs)) (map_next rrule xs i c.raw-item.result c.loop-raw-test.true c.raw-item.is)
    ∙ rule_fails p c.loop-raw.invariant.earlier r _ f (ap (λ (t : Scope). first_fault (own_tests t r)) (sym same) ∙ e))
    c.in_err-resolved.ensures

pub meet_need-requires : goal.meet_need-requires
meet_need-requires c =
    let p = rparts c.args.parts.now in
    let r = rrule c.raw-item.result in
    let same = scope_said p r c.args.sorts.now c.args.funs.now.names (tys c.args.funs.now.kinds) c.requires.sorts c.requires.funs c.requires.kinds in
    let is = subst (λ (s : Scope). IsResolvedRule s r c.in_ok-resolved.resolved) same c.in_ok-resolved.ensures.1 in
    subst (λ (ns : List (Option ℕ)). c.in_ok-resolved.resolved.head < length ns) (sym c.deref_mut.ensures.value)
    (head_inside p c.as_slice-raw-items.result.now c.loop-raw.raw-index c.loop-raw.rules.items _ c.loop-raw.needs.items r c.in_ok-resolved.resolved c.loop-raw.invariant is)

pub returns-in_err-meet_need : goal.returns-in_err-meet_need
returns-in_err-meet_need c =
    let p = rparts c.args.parts.now in
    let xs = c.as_slice-raw-items.result.now in
    let r = rrule c.raw-item.result in
    let done = c.in_ok-resolved.resolved in
    let earlier = c.loop-raw.invariant.earlier in
    let same = scope_said p r c.args.sorts.now c.args.funs.now.names (tys c.args.funs.now.kinds) c.requires.sorts c.requires.funs c.requires.kinds in
    let own = ap (λ (t : Scope). first_fault (own_tests t r)) (sym same) ∙ c.in_ok-resolved.ensures.0 in
    let is = subst (λ (s : Scope). IsResolvedRule s r done) same c.in_ok-resolved.ensures.1 in
    let inside = head_inside p xs c.loop-raw.raw-index c.loop-raw.rules.items _ c.loop-raw.needs.items r done c.loop-raw.invariant is in
    let uneven : is_uneven (head_symbol (scope_of p r) r.left) (arguments_of r.left) earlier ≡ true =
    ap₂ (λ o k. is_uneven o k earlier) is.head (sym is.count) ∙ c.loop-raw.invariant.tell done.head done.count inside
    ∙ ap (λ (ns : List (Option ℕ)). differs done.count (slice_index_or ns done.head None)) (sym c.deref_mut.ensures.value) ∙ c.in_err-meet_need.ensures.0 in
    fault_up (rules_tests p [] p.rules) c.from_residual-in_err-meet_need.result c.in_err-meet_need.field-0.0 (AreResolvedRules p) c.from_residual-in_err-meet_need.ensures.1
    (ap (λ (ys : List RawRule). first_fault (rules_tests p [] (map rrule ys))) (sym c.as_slice-raw-items.ensures) ∙ c.loop-raw.invariant.tests
    ∙ ap (λ rs. first_fault (rules_tests p earlier rs)) (map_next rrule xs c.loop-raw.raw-index c.raw-item.result c.loop-raw-test.true c.raw-item.is)
    ∙ rule_uneven p earlier r _ own uneven ∙ ap (λ k. Some (UnevenRules k)) (sym c.offset.ensures) ∙ ap Some (sym c.in_err-meet_need.ensures.1))

pub loop-raw-preserved : goal.loop-raw-preserved
loop-raw-preserved c =
    let p = rparts c.args.parts.now in
    let xs = c.as_slice-raw-items.result.now in
    let r = rrule c.raw-item.result in
    let done = c.in_ok-resolved.resolved in
    let old = c.loop-raw.needs.items in
    let new = c.meet_need.new.needs in
    let same = scope_said p r c.args.sorts.now c.args.funs.now.names (tys c.args.funs.now.kinds) c.requires.sorts c.requires.funs c.requires.kinds in
    let own = ap (λ (t : Scope). first_fault (own_tests t r)) (sym same) ∙ c.in_ok-resolved.ensures.0 in
    let is = subst (λ (s : Scope). IsResolvedRule s r done) same c.in_ok-resolved.ensures.1 in
    let value : c.deref_mut.result.now ≡ old = c.deref_mut.ensures.value in
    let back = written_back old new c.loop-raw.needs.len (ap length (sym value) ∙ c.deref_mut.ensures.len) (c.meet_need.auto.needs ∙ ap length value) in
    let meets = ap (λ (ns : List (Option ℕ)). differs done.count (slice_index_or ns done.head None)) (sym value) ∙ c.in_ok-meet_need.ensures.0 in
    let set : new ≡ slice_set old done.head (Some done.count) = c.in_ok-meet_need.ensures.1 ∙ ap (λ (ns : List (Option ℕ)). slice_set ns done.head (Some done.count)) value in
    subst (λ (ns : List (Option ℕ)). SoFar p xs (c.loop-raw.raw-index + 1) c.push.new.self.items c.push-in-loop-raw.new.self.items ns) (sym (back ∙ set))
    (one_more p xs c.loop-raw.raw-index c.loop-raw.rules.items c.push.new.self.items _ _ old c.raw-item.result done c.loop-raw-test.true c.raw-item.is c.loop-raw.invariant own is meets
    c.in_ok-push.ensures.items c.in_ok-push-2.ensures.items)

pub returns : goal.returns
returns c =
    let p = rparts c.args.parts.now in
    let said = all_said p c.as_slice-raw-items.result.now c.loop-raw.raw-index c.loop-raw.rules.items _ c.loop-raw.needs.items (ap (map rrule) (sym c.as_slice-raw-items.ensures)) c.loop-raw-test.false c.loop-raw.invariant in
    (said.passed, record { rules = said.says; names = said.named; each_need = c.loop-raw.invariant.long; needs = said.needed })
