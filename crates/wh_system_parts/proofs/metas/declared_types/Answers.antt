use Rattle.std.proofs.Common.{◌≡◌, Some, List, ap, sym, ◌∙◌}
use Rattle.wh_types.specs.declared.simple_type.SimpleType.{SimpleType}
use Rattle.wh_types.specs.Erase.{ty, tys}
use Rattle.wh_text.specs.Erase.{rty, rtys}
use Rattle.wh_system_parts.specs.Faults.{first_fault}
use Rattle.wh_system_parts.specs.Naming.{type_meant}
use Rattle.wh_system_parts.specs.RuleTests.{types_of_raw}
use Rattle.wh_system_parts.specs.Tests.{type_tests, types_tests}
use Rattle.wh_system_parts.proofs.RawTypes.{types_end}
use Rattle.wh_system_parts.proofs.TypeLemmas.{types_push, types_done}
use Rattle.wh_system_parts.proofs.PassLemmas.{error_on}
use Rattle.wh_system_parts.proofs.MetaLemmas.{typed_next, typed_fails}
use Rattle.wh_system_parts.proofs.metas.declared_types.Goals as goal

pub returns-in_err-declared_type : goal.returns-in_err-declared_type
returns-in_err-declared_type c =
    let S = c.args.sorts.now in
    let xs = c.as_slice-kind-items.result.now in
    let args = rtys c.args.kinds.now in
    let start = ap (λ ys. first_fault (types_tests S (rtys ys))) (sym c.as_slice-kind-items.ensures) in
    error_on (type_tests S (rty c.kind-item.result)) (types_tests S args) c.from_residual.result c.in_err-declared_type.field-0.0
    (λ (a : SimpleType). type_meant S (rty c.kind-item.result) ≡ Some (ty a)) (λ (types : List SimpleType). types_of_raw S args ≡ tys types)
    c.from_residual.ensures.1
    (λ f failed. start ∙ c.loop-kind.invariant.0 ∙ typed_fails S xs c.loop-kind.kind-index c.kind-item.result f c.loop-kind-test.true c.kind-item.is failed)
    c.in_err-declared_type.ensures

pub loop-kind-preserved : goal.loop-kind-preserved
loop-kind-preserved c =
    let xs = c.as_slice-kind-items.result.now in
    let S = c.args.sorts.now in (
      c.loop-kind.invariant.0 ∙ typed_next S xs c.loop-kind.kind-index c.kind-item.result c.loop-kind-test.true c.kind-item.is c.in_ok-declared_type.ensures.0,
      types_push S xs c.loop-kind.kind-index c.kind-item.result (types_of_raw S (rtys xs)) c.loop-kind.types c.push.new.self c.in_ok-declared_type.field-0 c.loop-kind-test.true c.kind-item.is
          c.in_ok-declared_type.ensures.1 c.loop-kind.invariant.1 c.in_ok-push.ensures.ok,
    )

pub returns : goal.returns
returns c =
    let S = c.args.sorts.now in
    let xs = c.as_slice-kind-items.result.now in
    let args : rtys c.args.kinds.now ≡ rtys xs = ap rtys (sym c.as_slice-kind-items.ensures) in (
      ap (λ us. first_fault (types_tests S us)) args ∙ c.loop-kind.invariant.0 ∙ ap (λ us. first_fault (types_tests S us)) (types_end xs c.loop-kind.kind-index c.loop-kind-test.false),
      ap (types_of_raw S) args ∙ types_done S xs c.loop-kind.kind-index (types_of_raw S (rtys xs)) c.loop-kind.types c.loop-kind-test.false c.loop-kind.invariant.1,
    )
