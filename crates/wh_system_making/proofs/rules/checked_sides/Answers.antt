use Rattle.std.proofs.Common.{[], ◌++◌, Some, ◌∙◌}
use Rattle.wh_types.specs.Erase.{ty}
use Rattle.wh_system_parts.specs.Erase.{rrule}
use Rattle.wh_system_parts.specs.Kinds.{kind_of}
use Rattle.wh_system_parts.specs.Tests.{naming_tests, side_tests}
use Rattle.wh_system_parts.proofs.FaultLemmas.{fault_after, fault_in_first, no_fault_in_both}
use Rattle.wh_system_parts.proofs.PassLemmas.{fault_up}
use Rattle.wh_system_resolve.specs.InScope.{scope as in_scope}
use Rattle.wh_system_making.specs.RulePasses.{both_tests, form_tests, sides_tests}
use Rattle.wh_system_making.proofs.PassOrder.{handed, after_both, in_first, in_second, typed_tests, typed_next}
use Rattle.wh_system_making.proofs.rules.checked_sides.Goals as goal

pub returns-in_err-check_side : goal.returns-in_err-check_side
returns-in_err-check_side c =
    let s = in_scope c.args.scope.now in
    let r = rrule c.args.raw.now in
    let f = c.in_err-check_side.field-0.0 in
    fault_up (both_tests s r) c.from_residual.result f _ c.from_residual.ensures.1
    (in_first (side_tests r.left) (side_tests r.right) (sides_tests s r ++ form_tests s r) f c.in_err-check_side.ensures)

pub returns-in_err-check_side-2 : goal.returns-in_err-check_side-2
returns-in_err-check_side-2 c =
    let s = in_scope c.args.scope.now in
    let r = rrule c.args.raw.now in
    let f = c.in_err-check_side-2.field-0.0 in
    fault_up (both_tests s r) c.from_residual-in_err-check_side-2.result f _ c.from_residual-in_err-check_side-2.ensures.1
    (in_second (side_tests r.left) (side_tests r.right) (sides_tests s r ++ form_tests s r) f c.in_ok-check_side.ensures c.in_err-check_side-2.ensures)

pub returns-in_err-left : goal.returns-in_err-left
returns-in_err-left c =
    let s = in_scope c.args.scope.now in
    let r = rrule c.args.raw.now in
    handed (naming_tests s [] r.left) (both_tests s r) c.from_residual-in_err-left.result c.in_err-left.field-0.0 _ _ c.from_residual-in_err-left.ensures.1
    (λ f e. after_both (side_tests r.left) (side_tests r.right) (sides_tests s r ++ form_tests s r) c.in_ok-check_side.ensures c.in_ok-check_side-2.ensures
    ∙ fault_in_first (sides_tests s r) (form_tests s r) f (in_first (naming_tests s [] r.left) (naming_tests s [] r.right) (typed_tests (kind_of s [] r.left) (kind_of s [] r.right) r.right) f e))
    c.in_err-left.ensures

pub returns-in_err-right : goal.returns-in_err-right
returns-in_err-right c =
    let s = in_scope c.args.scope.now in
    let r = rrule c.args.raw.now in
    let wanted = Some (ty c.in_ok-left.kind) in
    handed (naming_tests s [] r.right ++ typed_tests wanted (kind_of s [] r.right) r.right) (both_tests s r) c.from_residual-in_err-right.result c.in_err-right.field-0.0 _ _ c.from_residual-in_err-right.ensures.1
    (λ f e. after_both (side_tests r.left) (side_tests r.right) (sides_tests s r ++ form_tests s r) c.in_ok-check_side.ensures c.in_ok-check_side-2.ensures
    ∙ fault_in_first (sides_tests s r) (form_tests s r) f (typed_next s r wanted c.in_ok-left.ensures.0 c.in_ok-left.ensures.2 ∙ e))
    c.in_err-right.ensures

pub check_form-requires : goal.check_form-requires
check_form-requires c = record { left = c.in_ok-left.ensures.1; right = c.in_ok-right.ensures.1 }

pub returns-in_err-head : goal.returns-in_err-head
returns-in_err-head c =
    let s = in_scope c.args.scope.now in
    let r = rrule c.args.raw.now in
    let sides = typed_next s r (Some (ty c.in_ok-left.kind)) c.in_ok-left.ensures.0 c.in_ok-left.ensures.2 ∙ c.in_ok-right.ensures.0 in
    handed (form_tests s r) (both_tests s r) c.from_residual-in_err-head.result c.in_err-head.field-0.0 _ _ c.from_residual-in_err-head.ensures.1
    (λ f e. after_both (side_tests r.left) (side_tests r.right) (sides_tests s r ++ form_tests s r) c.in_ok-check_side.ensures c.in_ok-check_side-2.ensures
    ∙ fault_after (sides_tests s r) (form_tests s r) sides ∙ e)
    c.in_err-head.ensures

pub returns : goal.returns
returns c =
    let s = in_scope c.args.scope.now in
    let r = rrule c.args.raw.now in
    let sides = typed_next s r (Some (ty c.in_ok-left.kind)) c.in_ok-left.ensures.0 c.in_ok-left.ensures.2 ∙ c.in_ok-right.ensures.0 in (
      after_both (side_tests r.left) (side_tests r.right) (sides_tests s r ++ form_tests s r) c.in_ok-check_side.ensures c.in_ok-check_side-2.ensures
          ∙ no_fault_in_both (sides_tests s r) (form_tests s r) sides c.in_ok-head.ensures.0,
      (c.in_ok-left.ensures.1, c.in_ok-right.ensures.1, c.in_ok-head.ensures.1),
    )
