use Rattle.std.proofs.Common.{Vec, Global, ap, sym, ◌∙◌, Some, ◌≡◌}
use Rattle.wh_text.specs.Erase.{rty, rtys}
use Rattle.wh_types.specs.declared.simple_type.SimpleType.{SimpleType}
use Rattle.wh_types.specs.Erase.{ty, tys}
use Rattle.wh_text.specs.declared.raw.RawType.{out-RawType}
use Rattle.wh_system_parts.specs.Faults.{first_fault}
use Rattle.wh_system_parts.specs.Naming.{type_meant}
use Rattle.wh_system_parts.specs.Tests.{sorts_of_type, sorts_of_types}
use Rattle.wh_system_parts.specs.RuleTests.{types_of_raw}
use Rattle.wh_system_parts.proofs.RawTypes.{types_end}
use Rattle.wh_system_parts.proofs.PassLemmas.{error_on}
use Rattle.wh_system_parts.proofs.TypeLemmas.{type_inner, type_unknown, type_resolved, sorts_next, sorts_fail, types_push, types_done}
use Rattle.wh_system_parts.proofs.types.+resolve_type.Goals as goal

pub resolve_type-returns-in_err-domains : goal.resolve_type-returns-in_err-domains
resolve_type-returns-in_err-domains t c =
    let S = c.args.sorts.now in
    let args = rtys (out-RawType c.args.kind.now).args in
    error_on (sorts_of_types S args) (sorts_of_type S (rty c.args.kind.now)) c.from_residual.result c.in_err-domains.field-0.0
    (λ (domains : Vec SimpleType Global). types_of_raw S args ≡ tys domains.items) (λ (a : SimpleType). type_meant S (rty c.args.kind.now) ≡ Some (ty a))
    c.from_residual.ensures.1 (type_inner S c.args.kind.now) c.in_err-domains.ensures

pub resolve_type-returns-in_default : goal.resolve_type-returns-in_default
resolve_type-returns-in_default t c =
    type_unknown c.args.sorts.now c.args.kind.now c.in_ok-domains.ensures.0 (sym c.number.ensures ∙ c.in_default.is)

pub resolve_type-returns : goal.resolve_type-returns
resolve_type-returns t c =
    type_resolved c.args.sorts.now c.args.kind.now c.in_ok-domains.domains.items c.in-Some.sort c.in_ok-arrows.field-0 c.in_ok-domains.ensures.0 c.in_ok-domains.ensures.1
    (sym c.number.ensures ∙ c.in-Some.is) c.in_ok-arrows.ensures

pub resolve_types-returns-in_err-resolve_type : goal.resolve_types-returns-in_err-resolve_type
resolve_types-returns-in_err-resolve_type t c =
    let S = c.args.sorts.now in
    let xs = c.as_slice-kind-items.result.now in
    let args = rtys c.args.kinds.now in
    let start = ap (λ ys. first_fault (sorts_of_types S (rtys ys))) (sym c.as_slice-kind-items.ensures) in
    error_on (sorts_of_type S (rty c.kind-item.result)) (sorts_of_types S args) c.from_residual.result c.in_err-resolve_type.field-0.0
    (λ (a : SimpleType). type_meant S (rty c.kind-item.result) ≡ Some (ty a)) (λ (domains : Vec SimpleType Global). types_of_raw S args ≡ tys domains.items)
    c.from_residual.ensures.1
    (λ f failed. start ∙ c.loop-kind.invariant.0 ∙ sorts_fail S xs c.loop-kind.kind-index c.kind-item.result f c.loop-kind-test.true c.kind-item.is failed)
    c.in_err-resolve_type.ensures

pub resolve_types-loop-kind-preserved : goal.resolve_types-loop-kind-preserved
resolve_types-loop-kind-preserved t c =
    let xs = c.as_slice-kind-items.result.now in
    let S = c.args.sorts.now in (
      c.loop-kind.invariant.0 ∙ sorts_next S xs c.loop-kind.kind-index c.kind-item.result c.loop-kind-test.true c.kind-item.is c.in_ok-resolve_type.ensures.0,
      types_push S xs c.loop-kind.kind-index c.kind-item.result (types_of_raw S (rtys xs)) c.loop-kind.domains.items c.push.new.self.items c.in_ok-resolve_type.field-0 c.loop-kind-test.true c.kind-item.is
          c.in_ok-resolve_type.ensures.1 c.loop-kind.invariant.1 c.in_ok-push.ensures.items,
    )

pub resolve_types-returns : goal.resolve_types-returns
resolve_types-returns t c =
    let S = c.args.sorts.now in
    let xs = c.as_slice-kind-items.result.now in
    let args : rtys c.args.kinds.now ≡ rtys xs = ap rtys (sym c.as_slice-kind-items.ensures) in (
      ap (λ us. first_fault (sorts_of_types S us)) args ∙ c.loop-kind.invariant.0 ∙ ap (λ us. first_fault (sorts_of_types S us)) (types_end xs c.loop-kind.kind-index c.loop-kind-test.false),
      ap (types_of_raw S) args ∙ types_done S xs c.loop-kind.kind-index (types_of_raw S (rtys xs)) c.loop-kind.domains.items c.loop-kind-test.false c.loop-kind.invariant.1,
    )
