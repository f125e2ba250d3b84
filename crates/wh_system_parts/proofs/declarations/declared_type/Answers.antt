use Rattle.std.proofs.Common.{◌≡◌, Some}
use Rattle.wh_types.specs.declared.simple_type.SimpleType.{SimpleType}
use Rattle.wh_types.specs.Erase.{ty}
use Rattle.wh_text.specs.Erase.{rty}
use Rattle.wh_system_parts.specs.Naming.{type_meant}
use Rattle.wh_system_parts.specs.Tests.{sorts_of_type, width_of_type, type_tests}
use Rattle.wh_system_parts.proofs.FaultLemmas.{fault_in_first, fault_in_second, no_fault_in_both}
use Rattle.wh_system_parts.proofs.PassLemmas.{error_on, fault_up}
use Rattle.wh_system_parts.proofs.declarations.declared_type.Goals as goal

pub returns-in_err-resolved : goal.returns-in_err-resolved
returns-in_err-resolved c =
    let S = c.args.sorts.now in
    let a = rty c.args.kind.now in
    let P = λ (k : SimpleType). type_meant S a ≡ Some (ty k) in
    error_on (sorts_of_type S a) (type_tests S a) c.from_residual.result c.in_err-resolved.field-0.0 P P c.from_residual.ensures.1
    (λ f failed. fault_in_first (sorts_of_type S a) (width_of_type a) f failed) c.in_err-resolved.ensures

pub returns-in_err-check_width : goal.returns-in_err-check_width
returns-in_err-check_width c =
    let S = c.args.sorts.now in
    let a = rty c.args.kind.now in
    fault_up (type_tests S a) c.from_residual-in_err-check_width.result c.in_err-check_width.field-0.0 (λ (k : SimpleType). type_meant S a ≡ Some (ty k))
    c.from_residual-in_err-check_width.ensures.1
    (fault_in_second (sorts_of_type S a) (width_of_type a) c.in_err-check_width.field-0.0 c.in_ok-resolved.ensures.0 c.in_err-check_width.ensures)

pub returns : goal.returns
returns c =
    let a = rty c.args.kind.now in
    (no_fault_in_both (sorts_of_type c.args.sorts.now a) (width_of_type a) c.in_ok-resolved.ensures.0 c.in_ok-check_width.ensures, c.in_ok-resolved.ensures.1)
