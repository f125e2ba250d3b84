use Rattle.std.proofs.Common.{◌≡◌, ◌||◌, Some, List, [], ◌∷◌, ◌++◌}
use Rattle.wh_types.specs.declared.simple_type.SimpleType.{SimpleType}
use Rattle.wh_types.specs.Erase.{ty, tys}
use Rattle.wh_terms.specs.Erase.{declared_meta}
use Rattle.wh_terms.specs.declared.rule.MetaDecl.{MetaDecl}
use Rattle.wh_system_parts.specs.declared.fault.SystemFault.TheVariants.{Twice}
use Rattle.wh_system_parts.specs.Erase.{rmeta}
use Rattle.wh_system_parts.specs.Declarations.{tests_of_meta}
use Rattle.wh_system_parts.specs.Naming.{is_declared, type_meant}
use Rattle.wh_system_parts.specs.RuleTests.{declared_by, types_of_raw}
use Rattle.wh_system_parts.specs.Tests.{test, count_of_types, type_tests, types_tests}
use Rattle.wh_system_parts.proofs.FaultLemmas.{fault_in_first, fault_in_second, no_fault_in_both}
use Rattle.wh_system_parts.proofs.PassLemmas.{error_on, fault_up}
use Rattle.wh_system_parts.proofs.MetaLemmas.{declared_as}
use Rattle.wh_system_parts.proofs.metas.declare_meta.Goals as goal

pub returns-in_err-check_type_count-clause-meta : goal.returns-in_err-check_type_count-clause-meta
returns-in_err-check_type_count-clause-meta c =
    let S = c.args.sorts.now in
    let m = rmeta c.args.meta.now in
    let first = test (is_declared c.args.names.now m.name.name || is_declared c.args.funs.now m.name.name) (Twice m.name.at) ∷ [] in
    let C = count_of_types 0 m.args in
    let T = types_tests S m.args in
    let O = type_tests S m.out in
    let f = c.in_err-check_type_count.field-0.0 in
    fault_up (tests_of_meta S c.args.funs.now c.args.names.now m) c.from_residual-in_err-check_type_count.result f (λ (made : MetaDecl). declared_meta made ≡ declared_by S m) c.from_residual-in_err-check_type_count.ensures.1
    (fault_in_second first (C ++ T ++ O) f c.in_ok-join_meta.ensures.0 (fault_in_first (C ++ T) O f (fault_in_first C T f c.in_err-check_type_count.ensures)))

pub returns-in_err-args-clause-meta : goal.returns-in_err-args-clause-meta
returns-in_err-args-clause-meta c =
    let S = c.args.sorts.now in
    let m = rmeta c.args.meta.now in
    let first = test (is_declared c.args.names.now m.name.name || is_declared c.args.funs.now m.name.name) (Twice m.name.at) ∷ [] in
    let C = count_of_types 0 m.args in
    let T = types_tests S m.args in
    let O = type_tests S m.out in
    error_on T (tests_of_meta S c.args.funs.now c.args.names.now m) c.from_residual-in_err-args.result c.in_err-args.field-0.0 (λ (types : List SimpleType). types_of_raw S m.args ≡ tys types) (λ (made : MetaDecl). declared_meta made ≡ declared_by S m)
    c.from_residual-in_err-args.ensures.1
    (λ f failed. fault_in_second first (C ++ T ++ O) f c.in_ok-join_meta.ensures.0 (fault_in_first (C ++ T) O f (fault_in_second C T f c.in_ok-check_type_count.ensures failed)))
    c.in_err-args.ensures

pub returns-in_err-last-clause-meta : goal.returns-in_err-last-clause-meta
returns-in_err-last-clause-meta c =
    let S = c.args.sorts.now in
    let m = rmeta c.args.meta.now in
    let first = test (is_declared c.args.names.now m.name.name || is_declared c.args.funs.now m.name.name) (Twice m.name.at) ∷ [] in
    let C = count_of_types 0 m.args in
    let T = types_tests S m.args in
    let O = type_tests S m.out in
    error_on O (tests_of_meta S c.args.funs.now c.args.names.now m) c.from_residual-in_err-last.result c.in_err-last.field-0.0 (λ (a : SimpleType). type_meant S m.out ≡ Some (ty a)) (λ (made : MetaDecl). declared_meta made ≡ declared_by S m)
    c.from_residual-in_err-last.ensures.1
    (λ f failed. fault_in_second first (C ++ T ++ O) f c.in_ok-join_meta.ensures.0
    (fault_in_second (C ++ T) O f (no_fault_in_both C T c.in_ok-check_type_count.ensures c.in_ok-args.ensures.0) failed))
    c.in_err-last.ensures

pub returns-clause-meta : goal.returns-clause-meta
returns-clause-meta c =
    let S = c.args.sorts.now in
    let m = rmeta c.args.meta.now in
    let first = test (is_declared c.args.names.now m.name.name || is_declared c.args.funs.now m.name.name) (Twice m.name.at) ∷ [] in
    let C = count_of_types 0 m.args in
    let T = types_tests S m.args in
    let O = type_tests S m.out in (
      no_fault_in_both first (C ++ T ++ O) c.in_ok-join_meta.ensures.0 (no_fault_in_both (C ++ T) O (no_fault_in_both C T c.in_ok-check_type_count.ensures c.in_ok-args.ensures.0) c.in_ok-last.ensures.0),
      declared_as S m c.in_ok-args.args c.in_ok-last.last c.in_ok-args.ensures.1 c.in_ok-last.ensures.1,
    )
