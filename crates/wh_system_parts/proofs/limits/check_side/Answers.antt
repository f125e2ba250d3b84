use Rattle.std.proofs.Common.{Some, ap, sym, ◌∙◌, arith}
use Rattle.wh_text.specs.Erase.{rtm}
use Rattle.wh_system_parts.specs.Tests.{side_tests}
use Rattle.wh_system_parts.specs.declared.fault.SystemFault.TheVariants.{TooMany}
use Rattle.wh_system_parts.proofs.PassLemmas.{fault_on}
use Rattle.wh_system_parts.proofs.SideLemmas.{side_wide, side_high, side_large, side_fits}
use Rattle.wh_system_parts.proofs.limits.check_side.Goals as goal

pub returns-in_err-check_widths : goal.returns-in_err-check_widths
returns-in_err-check_widths c =
    let t = rtm c.args.side.now in
    fault_on (side_tests t) c.from_residual.result c.in_err-check_widths.field-0.0 c.from_residual.ensures.1 (side_wide t c.in_err-check_widths.field-0.0 c.in_err-check_widths.ensures)

pub returns-in_default : goal.returns-in_default
returns-in_default c =
    side_high (rtm c.args.side.now) c.in_ok-check_widths.ensures c.in_default.ensures ∙ ap (λ a. Some (TooMany a)) (sym c.offset.ensures)

pub returns-in_default-spend : goal.returns-in_default-spend
returns-in_default-spend c =
    side_large (rtm c.args.side.now) c.in_ok-check_widths.ensures c.in-Some.ensures c.in_default-spend.ensures ∙ ap (λ a. Some (TooMany a)) (sym c.offset-in_default-spend.ensures)

pub returns : goal.returns
returns c = side_fits (rtm c.args.side.now) c.in_ok-check_widths.ensures c.in-Some.ensures (omega (arith, c.in-Some-spend.ensures))
