use Rattle.std.proofs.Common.{◌≡◌, ap, sym, ◌∙◌, [], ◌++◌, map, length}
use Rattle.wh_terms.specs.Erase.{declared_meta, declared_metas}
use Rattle.wh_terms.specs.declared.rule.MetaDecl.{MetaDecl}
use Rattle.wh_system_parts.specs.declared.parts.RawMeta.{RawMeta}
use Rattle.wh_system_parts.specs.declared.metas.RuleMetas.{RuleMetas}
use Rattle.wh_system_parts.specs.Parts.{RMeta}
use Rattle.wh_system_parts.specs.Erase.{rmeta}
use Rattle.wh_system_parts.specs.Faults.{first_fault}
use Rattle.wh_system_parts.specs.RuleTests.{declared_by}
use Rattle.wh_system_parts.specs.Tests.{meta_tests}
use Rattle.wh_system_parts.specs.Declarations.{meta_count, tests_of_meta}
use Rattle.wh_system_parts.proofs.FaultLemmas.{fault_in_second}
use Rattle.wh_system_parts.proofs.PassLemmas.{error_on}
use Rattle.wh_system_parts.proofs.DeclarationLemmas.{map_fused, length_joined, list_next}
use Rattle.wh_system_parts.proofs.MetaLemmas.{meta_next, meta_fails, declared_joined}
use Rattle.wh_system_parts.proofs.metas.declare_metas.Goals as goal

pub loop-meta-init : goal.loop-meta-init
loop-meta-init c =
    let xs = c.args.metas.now in
    let S = c.args.sorts.now in
    let F = c.args.funs.now in
    let e = c.new-names.ensures in
    let k = c.new-declared.ensures in (
      ap (λ t. first_fault (meta_tests S F t (map rmeta xs))) (sym e),
      map_fused rmeta (λ (m : RMeta). m.name.name) xs ∙ ap (λ t. t ++ map (λ (m : RawMeta). (rmeta m).name.name) xs) (sym e),
      map_fused rmeta (declared_by S) xs ∙ ap (λ t. declared_metas t ++ map (λ (m : RawMeta). declared_by S (rmeta m)) xs) (sym k),
      ap length e,
    )

pub returns-in_err-declaration : goal.returns-in_err-declaration
returns-in_err-declaration c =
    let xs = c.args.metas.now in
    let S = c.args.sorts.now in
    let F = c.args.funs.now in
    let m = c.meta-item.result in
    let all = map rmeta xs in
    error_on (tests_of_meta S F c.loop-meta.names (rmeta m)) (meta_count all ++ meta_tests S F [] all) c.from_residual-in_err-declaration.result c.in_err-declaration.field-0.0
    (λ (made : MetaDecl). declared_meta made ≡ declared_by S (rmeta m))
    (λ (r : RuleMetas). (r.names ≡ map (λ (m : RMeta). m.name.name) all) × (declared_metas r.declared ≡ map (declared_by S) all))
    c.from_residual-in_err-declaration.ensures.1
    (λ fault failed. fault_in_second (meta_count all) (meta_tests S F [] all) fault c.in_ok-check_meta_count.ensures
    (c.loop-meta.invariant.0 ∙ meta_fails S F xs c.loop-meta.meta-index m c.loop-meta.names fault c.loop-meta-test.true c.meta-item.is failed))
    c.in_err-declaration.ensures.meta

pub loop-meta-preserved : goal.loop-meta-preserved
loop-meta-preserved c =
    let xs = c.args.metas.now in
    let S = c.args.sorts.now in
    let F = c.args.funs.now in
    let m = c.meta-item.result in
    let i = c.loop-meta.meta-index in
    let joined = c.in_ok-declaration.ensures.joined in (
      c.loop-meta.invariant.0 ∙ meta_next S F xs i m c.loop-meta.names c.declare_meta.new.names c.loop-meta-test.true c.meta-item.is c.in_ok-declaration.ensures.meta.0 joined,
      list_next (λ (m : RawMeta). (rmeta m).name.name) xs i m (map (λ (m : RMeta). m.name.name) (map rmeta xs)) c.loop-meta.names c.declare_meta.new.names c.loop-meta-test.true c.meta-item.is
          c.loop-meta.invariant.1 joined,
      list_next (λ (m : RawMeta). declared_by S (rmeta m)) xs i m (map (declared_by S) (map rmeta xs)) (declared_metas c.loop-meta.declared) (declared_metas c.push.new.self) c.loop-meta-test.true c.meta-item.is
          c.loop-meta.invariant.2 (declared_joined c.loop-meta.declared c.push.new.self c.in_ok-declaration.declaration (declared_by S (rmeta m)) c.in_ok-declaration.ensures.meta.1 c.in_ok-push.ensures.ok),
      length_joined c.loop-meta.names c.declare_meta.new.names m.name.name i joined c.loop-meta.invariant.3,
    )
