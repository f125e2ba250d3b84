use Rattle.std.proofs.Common.{◌≡◌, [], ◌∷◌, ◌++◌, Some, not, true, false, ap, sym, ◌∙◌}
use Rattle.wh_types.specs.Erase.{ty}
use Rattle.wh_text.specs.Erase.{rtm}
use Rattle.wh_system_parts.specs.declared.fault.SystemFault.TheVariants.{IllTyped}
use Rattle.wh_system_parts.specs.Kinds.{kind_of}
use Rattle.wh_system_parts.specs.Tests.{test, term_offset, naming_tests}
use Rattle.wh_system_parts.specs.RuleTests.{same_kind}
use Rattle.wh_system_parts.proofs.FaultLemmas.{fault_after, fault_at_test, fault_in_first, past_test}
use Rattle.wh_system_resolve.specs.InScope.{scope as in_scope}
use Rattle.wh_system_resolve.proofs.FittingLemmas.{same_type-true, same_type-false}
use Rattle.wh_system_making.proofs.PassOrder.{handed}
use Rattle.wh_system_making.proofs.rules.resolve_typed.Goals as goal

pub returns-in_err-term : goal.returns-in_err-term
returns-in_err-term c =
    let s = in_scope c.args.scope.now in
    let t = rtm c.args.side.now in
    let N = naming_tests s [] t in
    let T = test (not (same_kind (Some (ty c.args.kind.now)) (kind_of s [] t))) (IllTyped (term_offset t)) ∷ [] in
    handed N (N ++ T) c.from_residual.result c.in_err-term.field-0.0 _ _ c.from_residual.ensures.1 (λ f e. fault_in_first N T f e) c.in_err-term.ensures

pub returns-then-not-same_type : goal.returns-then-not-same_type
returns-then-not-same_type c =
    let s = in_scope c.args.scope.now in
    let t = rtm c.args.side.now in
    let a = ty c.args.kind.now in
    let b = ty c.in_ok-term.own in
    let N = naming_tests s [] t in
    let unlike = not (same_kind (Some a) (kind_of s [] t)) in
    let other : a ≡ b → ⊥ = λ e. (let yes = c.same_type.ensures.1 e in cc yes) in
    let differ : unlike ≡ true = ap (λ p. not (same_kind (Some a) p)) c.in_ok-term.ensures.2 ∙ same_type-false a b other in
    fault_after N (test unlike (IllTyped (term_offset t)) ∷ []) c.in_ok-term.ensures.0
    ∙ fault_at_test unlike (IllTyped (term_offset t)) [] differ ∙ ap (λ k. Some (IllTyped k)) (sym c.offset.ensures)

pub returns : goal.returns
returns c =
    let s = in_scope c.args.scope.now in
    let t = rtm c.args.side.now in
    let a = ty c.args.kind.now in
    let b = ty c.in_ok-term.own in
    let N = naming_tests s [] t in
    let unlike = not (same_kind (Some a) (kind_of s [] t)) in
    let same : a ≡ b = c.same_type.ensures.0 c.if-not-same_type.false in
    let agree : unlike ≡ false = ap (λ p. not (same_kind (Some a) p)) c.in_ok-term.ensures.2 ∙ same_type-true a b same in (
      fault_after N (test unlike (IllTyped (term_offset t)) ∷ []) c.in_ok-term.ensures.0 ∙ past_test unlike (IllTyped (term_offset t)) [] agree,
      c.in_ok-term.ensures.1,
    )
