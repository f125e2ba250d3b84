use Rattle.std.proofs.Common.{ap, sym, ◌∙◌, Some, arith}
use Rattle.wh_system_parts.specs.declared.fault.SystemFault.TheVariants.{TooMany}
use Rattle.wh_text.specs.Erase.{rty}
use Rattle.wh_system_parts.specs.Tests.{width_of_type}
use Rattle.wh_system_parts.proofs.PassLemmas.{fault_on}
use Rattle.wh_system_parts.proofs.RawTypes.{type_weight_in, width_start, width_step, width_inner, width_past, width_end}
use Rattle.wh_system_parts.proofs.types.+check_width.Goals as goal

pub check_width-requires : goal.check_width-requires
check_width-requires t c =
    (omega (arith, type_weight_in c.args.kind.now c.as_slice-argument-items.result.now c.loop-k.k c.argument-item.result c.as_slice-argument-items.ensures c.loop-k-test.true c.argument-item.is), tt)

pub returns-then-k-eq-MOST_ARGUMENTS : goal.returns-then-k-eq-MOST_ARGUMENTS
returns-then-k-eq-MOST_ARGUMENTS t c =
    let xs = c.as_slice-argument-items.result.now in
    width_start c.args.kind.now xs c.as_slice-argument-items.ensures ∙ c.loop-k.invariant
    ∙ width_past xs c.loop-k.k c.argument-item.result c.loop-k-test.true c.argument-item.is c.if-k-eq-MOST_ARGUMENTS.true
    ∙ ap (λ at. Some (TooMany at)) (sym c.offset_of_type.ensures)

pub returns-in_err-check_width : goal.returns-in_err-check_width
returns-in_err-check_width t c =
    let xs = c.as_slice-argument-items.result.now in
    fault_on (width_of_type (rty c.args.kind.now)) c.from_residual.result c.in_err-check_width.field-0.0 c.from_residual.ensures.1
    (width_start c.args.kind.now xs c.as_slice-argument-items.ensures ∙ c.loop-k.invariant
    ∙ width_inner xs c.loop-k.k c.argument-item.result c.in_err-check_width.field-0.0 c.loop-k-test.true c.argument-item.is c.if-k-eq-MOST_ARGUMENTS.false c.in_err-check_width.ensures)

pub loop-k-preserved : goal.loop-k-preserved
loop-k-preserved t c =
    c.loop-k.invariant
    ∙ width_step c.as_slice-argument-items.result.now c.loop-k.k c.argument-item.result c.loop-k-test.true c.argument-item.is c.if-k-eq-MOST_ARGUMENTS.false c.in_ok-check_width.ensures

pub returns : goal.returns
returns t c =
    let xs = c.as_slice-argument-items.result.now in
    width_start c.args.kind.now xs c.as_slice-argument-items.ensures ∙ c.loop-k.invariant ∙ width_end xs c.loop-k.k c.loop-k-test.false
