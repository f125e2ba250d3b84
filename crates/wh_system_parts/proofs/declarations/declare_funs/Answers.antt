use Rattle.std.proofs.Common.{◌≡◌, Some, ap, sym, ◌∙◌, [], ◌++◌, map, length}
use Rattle.wh_types.specs.declared.simple_type.SimpleType.{SimpleType}
use Rattle.wh_types.specs.Erase.{ty, tys}
use Rattle.wh_text.specs.Erase.{rty}
use Rattle.wh_system_parts.specs.declared.parts.RawFun.{RawFun}
use Rattle.wh_system_parts.specs.declared.declarations.Funs.{Funs}
use Rattle.wh_system_parts.specs.Parts.{RFun}
use Rattle.wh_system_parts.specs.Erase.{rfun}
use Rattle.wh_system_parts.specs.Faults.{first_fault}
use Rattle.wh_system_parts.specs.Naming.{type_meant}
use Rattle.wh_system_parts.specs.RuleTests.{type_of_raw}
use Rattle.wh_system_parts.specs.Tests.{fun_tests}
use Rattle.wh_system_parts.specs.Declarations.{fun_count, tests_of_fun}
use Rattle.wh_system_parts.proofs.FaultLemmas.{fault_in_second}
use Rattle.wh_system_parts.proofs.PassLemmas.{error_on}
use Rattle.wh_system_parts.proofs.DeclarationLemmas.{map_fused, length_joined, fun_next, fun_fails, list_next, kind_joined}
use Rattle.wh_system_parts.proofs.declarations.declare_funs.Goals as goal

pub loop-fun-init : goal.loop-fun-init
loop-fun-init c =
    let xs = c.args.funs.now in
    let S = c.args.sorts.now in
    let e = c.new-names.ensures in
    let k = c.new-kinds.ensures in (
      ap (λ t. first_fault (fun_tests S t (map rfun xs))) (sym e),
      map_fused rfun (λ (f : RFun). f.name.name) xs ∙ ap (λ t. t ++ map (λ (f : RawFun). (rfun f).name.name) xs) (sym e),
      map_fused rfun (λ (f : RFun). type_of_raw S f.kind) xs ∙ ap (λ t. tys t ++ map (λ (f : RawFun). type_of_raw S (rfun f).kind) xs) (sym k),
      ap length e,
    )

pub returns-in_err-kind : goal.returns-in_err-kind
returns-in_err-kind c =
    let xs = c.args.funs.now in
    let S = c.args.sorts.now in
    let f = c.fun-item.result in
    let all = map rfun xs in
    error_on (tests_of_fun S c.loop-fun.names (rfun f)) (fun_count all ++ fun_tests S [] all) c.from_residual-in_err-kind.result c.in_err-kind.field-0.0
    (λ (k : SimpleType). type_meant S (rty f.kind) ≡ Some (ty k))
    (λ (d : Funs). (d.names ≡ map (λ (f : RFun). f.name.name) all) × (tys d.kinds ≡ map (λ (f : RFun). type_of_raw S f.kind) all))
    c.from_residual-in_err-kind.ensures.1
    (λ fault failed. fault_in_second (fun_count all) (fun_tests S [] all) fault c.in_ok-check_fun_count.ensures
    (c.loop-fun.invariant.0 ∙ fun_fails S xs c.loop-fun.fun-index f c.loop-fun.names fault c.loop-fun-test.true c.fun-item.is failed))
    c.in_err-kind.ensures.kind

pub loop-fun-preserved : goal.loop-fun-preserved
loop-fun-preserved c =
    let xs = c.args.funs.now in
    let S = c.args.sorts.now in
    let f = c.fun-item.result in
    let i = c.loop-fun.fun-index in
    let joined = c.in_ok-kind.ensures.joined in (
      c.loop-fun.invariant.0 ∙ fun_next S xs i f c.loop-fun.names c.declare_fun.new.names c.loop-fun-test.true c.fun-item.is c.in_ok-kind.ensures.kind.0 joined,
      list_next (λ (f : RawFun). (rfun f).name.name) xs i f (map (λ (f : RFun). f.name.name) (map rfun xs)) c.loop-fun.names c.declare_fun.new.names c.loop-fun-test.true c.fun-item.is
          c.loop-fun.invariant.1 joined,
      list_next (λ (f : RawFun). type_of_raw S (rfun f).kind) xs i f (map (λ (f : RFun). type_of_raw S f.kind) (map rfun xs)) (tys c.loop-fun.kinds) (tys c.push.new.self) c.loop-fun-test.true c.fun-item.is
          c.loop-fun.invariant.2 (kind_joined S (rty f.kind) c.loop-fun.kinds c.push.new.self c.in_ok-kind.kind c.in_ok-kind.ensures.kind.1 c.in_ok-push.ensures.ok),
      length_joined c.loop-fun.names c.declare_fun.new.names f.name.name i joined c.loop-fun.invariant.3,
    )
