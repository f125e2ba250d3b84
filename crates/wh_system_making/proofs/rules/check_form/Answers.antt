use Rattle.std.proofs.Common.{◌≡◌, ◌≤◌, [], ◌∷◌, ◌++◌, Some, not, ℕ, length, ap, sym, ◌∙◌, arith}
use Rattle.std.specs.Prelude.{is_some}
use Rattle.wh_text.specs.Erase.{rtm}
use Rattle.wh_system_parts.specs.declared.fault.SystemFault.TheVariants.{HeadNotFun}
use Rattle.wh_system_parts.specs.Tests.{test, term_offset}
use Rattle.wh_system_parts.specs.RuleTests.{open_tests, head_symbol, pattern_tests, new_meta_tests}
use Rattle.wh_system_parts.proofs.FaultLemmas.{fault_at_test, past_test, fault_after, fault_in_first, no_fault_in_both}
use Rattle.wh_system_parts.proofs.PassLemmas.{fault_up}
use Rattle.wh_system_resolve.specs.InScope.{scope as in_scope}
use Rattle.wh_system_making.proofs.PassOrder.{handed, after_both, in_first, in_second}
use Rattle.wh_system_making.specs.RulePasses.{form_tests}
use Rattle.wh_system_parts.specs.Erase.{rrule}
use Rattle.wh_system_making.proofs.rules.check_form.Goals as goal

pub returns-in_err-check_open : goal.returns-in_err-check_open
returns-in_err-check_open c =
    let s = in_scope c.args.scope.now in
    let l = rtm c.args.raw.now.left in
    let r = rtm c.args.raw.now.right in
    let h = not (is_some (head_symbol s l)) in
    fault_up (form_tests s (rrule c.args.raw.now)) c.from_residual.result c.in_err-check_open.field-0.0 (λ (fun : ℕ). head_symbol s l ≡ Some fun) c.from_residual.ensures.1
    (in_first (open_tests l) (open_tests r) (test h (HeadNotFun (term_offset l)) ∷ (pattern_tests s [] l ++ new_meta_tests s l [] r)) c.in_err-check_open.field-0.0 c.in_err-check_open.ensures)

pub returns-in_err-check_open-2 : goal.returns-in_err-check_open-2
returns-in_err-check_open-2 c =
    let s = in_scope c.args.scope.now in
    let l = rtm c.args.raw.now.left in
    let r = rtm c.args.raw.now.right in
    let h = not (is_some (head_symbol s l)) in
    let f = c.in_err-check_open-2.field-0.0 in
    fault_up (form_tests s (rrule c.args.raw.now)) c.from_residual-in_err-check_open-2.result f (λ (fun : ℕ). head_symbol s l ≡ Some fun) c.from_residual-in_err-check_open-2.ensures.1
    (in_second (open_tests l) (open_tests r) (test h (HeadNotFun (term_offset l)) ∷ (pattern_tests s [] l ++ new_meta_tests s l [] r)) f c.in_ok-check_open.ensures c.in_err-check_open-2.ensures)

pub returns-in_err-head : goal.returns-in_err-head
returns-in_err-head c =
    let s = in_scope c.args.scope.now in
    let l = rtm c.args.raw.now.left in
    let r = rtm c.args.raw.now.right in
    let rest = pattern_tests s [] l ++ new_meta_tests s l [] r in
    let h = not (is_some (head_symbol s l)) in
    let f = c.in_err-head.field-0.0 in
    fault_up (form_tests s (rrule c.args.raw.now)) c.from_residual-in_err-head.result f (λ (fun : ℕ). head_symbol s l ≡ Some fun) c.from_residual-in_err-head.ensures.1
    (after_both (open_tests l) (open_tests r) (test h (HeadNotFun (term_offset l)) ∷ rest) c.in_ok-check_open.ensures c.in_ok-check_open-2.ensures
    ∙ fault_at_test h (HeadNotFun (term_offset l)) rest (ap (λ o. not (is_some o)) (c.in_err-head.ensures s c.requires.left).0) ∙ ap Some (sym (c.in_err-head.ensures s c.requires.left).1))

pub returns-in_err-check_pattern : goal.returns-in_err-check_pattern
returns-in_err-check_pattern c =
    let s = in_scope c.args.scope.now in
    let l = rtm c.args.raw.now.left in
    let r = rtm c.args.raw.now.right in
    let P = pattern_tests s [] l in
    let N = new_meta_tests s l [] r in
    let h = not (is_some (head_symbol s l)) in
    let place = HeadNotFun (term_offset l) in
    handed P (form_tests s (rrule c.args.raw.now)) c.from_residual-in_err-check_pattern.result c.in_err-check_pattern.field-0.0 _ (λ (fun : ℕ). head_symbol s l ≡ Some fun)
    c.from_residual-in_err-check_pattern.ensures.1
    (λ f e. after_both (open_tests l) (open_tests r) (test h place ∷ (P ++ N)) c.in_ok-check_open.ensures c.in_ok-check_open-2.ensures
    ∙ past_test h place (P ++ N) (ap (λ o. not (is_some o)) (c.in_ok-head.ensures s c.requires.left)) ∙ fault_in_first P N f e)
    (c.in_err-check_pattern.ensures s c.requires.left)

pub returns-in_err-check_new_metas : goal.returns-in_err-check_new_metas
returns-in_err-check_new_metas c =
    let s = in_scope c.args.scope.now in
    let l = rtm c.args.raw.now.left in
    let metas : length s.metas ≤ length c.as_slice-metas.result.now = omega (arith, c.args.scope.now.each_meta, ap length c.as_slice-metas.ensures) in
    let r = rtm c.args.raw.now.right in
    let P = pattern_tests s [] l in
    let N = new_meta_tests s l [] r in
    let h = not (is_some (head_symbol s l)) in
    let place = HeadNotFun (term_offset l) in
    handed N (form_tests s (rrule c.args.raw.now)) c.from_residual-in_err-check_new_metas.result c.in_err-check_new_metas.field-0.0 _ (λ (fun : ℕ). head_symbol s l ≡ Some fun)
    c.from_residual-in_err-check_new_metas.ensures.1
    (λ f e. after_both (open_tests l) (open_tests r) (test h place ∷ (P ++ N)) c.in_ok-check_open.ensures c.in_ok-check_open-2.ensures
    ∙ past_test h place (P ++ N) (ap (λ o. not (is_some o)) (c.in_ok-head.ensures s c.requires.left)) ∙ fault_after P N (c.in_ok-check_pattern.ensures s c.requires.left) ∙ e)
    (c.in_err-check_new_metas.ensures s l c.requires.left c.requires.right metas)

pub returns : goal.returns
returns c =
    let s = in_scope c.args.scope.now in
    let l = rtm c.args.raw.now.left in
    let metas : length s.metas ≤ length c.as_slice-metas.result.now = omega (arith, c.args.scope.now.each_meta, ap length c.as_slice-metas.ensures) in
    let r = rtm c.args.raw.now.right in
    let P = pattern_tests s [] l in
    let N = new_meta_tests s l [] r in
    let h = not (is_some (head_symbol s l)) in
    let place = HeadNotFun (term_offset l) in (
      after_both (open_tests l) (open_tests r) (test h place ∷ (P ++ N)) c.in_ok-check_open.ensures c.in_ok-check_open-2.ensures
          ∙ past_test h place (P ++ N) (ap (λ o. not (is_some o)) (c.in_ok-head.ensures s c.requires.left)) ∙ no_fault_in_both P N (c.in_ok-check_pattern.ensures s c.requires.left) (c.in_ok-check_new_metas.ensures s l c.requires.left c.requires.right metas),
      c.in_ok-head.ensures s c.requires.left,
    )
