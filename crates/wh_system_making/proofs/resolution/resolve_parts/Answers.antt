use Rattle.std.proofs.Common.{map, [], ◌++◌, ◌∙◌}
use Rattle.wh_types.specs.Erase.{tys}
use Rattle.wh_system_parts.specs.Erase.{rparts, rname, rfun}
use Rattle.wh_system_parts.specs.Declarations.{sort_count, fun_count, rule_count}
use Rattle.wh_system_parts.specs.Tests.{names_tests, fun_tests, sorts_tests, funs_tests, sort_names}
use Rattle.wh_system_parts.specs.RuleTests.{tests, rules_tests}
use Rattle.wh_system_parts.proofs.PassLemmas.{fault_up}
use Rattle.wh_system_making.specs.RulesPassed.{IsResolution}
use Rattle.wh_system_making.proofs.PassOrder.{handed, sorts_fail, funs_fail, count_fails, before_rules}
use Rattle.wh_system_making.proofs.PartsAlong.{sorts_along, sort_names_along, funs_along, fun_names_along, kinds_along, rules_along}
use Rattle.wh_system_making.proofs.resolution.resolve_parts.Goals as goal

pub returns-in_err-sorts : goal.returns-in_err-sorts
returns-in_err-sorts c =
    let p = rparts c.args.parts.now in
    let A = sorts_tests p in
    let B = funs_tests p in
    let C = rule_count p.rules in
    let D = rules_tests p [] p.rules in
    let xs = c.as_slice.result.now in
    handed (sort_count (map rname xs) ++ names_tests [] [] (map rname xs)) (tests p) c.from_residual.result c.in_err-sorts.field-0.0 _ (IsResolution p) c.from_residual.ensures.1
    (λ f e. sorts_fail A B C D f (sorts_along xs c.args.parts.now.sorts c.as_slice.ensures ∙ e)) c.in_err-sorts.ensures

pub returns-in_err-funs : goal.returns-in_err-funs
returns-in_err-funs c =
    let p = rparts c.args.parts.now in
    let A = sorts_tests p in
    let B = funs_tests p in
    let C = rule_count p.rules in
    let D = rules_tests p [] p.rules in
    let named = sort_names_along c.as_slice.result.now c.args.parts.now.sorts c.in_ok-sorts.sorts c.as_slice.ensures c.in_ok-sorts.ensures.1 in
    let xs = c.as_slice-2.result.now in
    handed (fun_count (map rfun xs) ++ fun_tests c.in_ok-sorts.sorts [] (map rfun xs)) (tests p) c.from_residual-in_err-funs.result c.in_err-funs.field-0.0 _ (IsResolution p) c.from_residual-in_err-funs.ensures.1
    (λ f e. funs_fail A B C D f (sorts_along c.as_slice.result.now c.args.parts.now.sorts c.as_slice.ensures ∙ c.in_ok-sorts.ensures.0) (funs_along c.in_ok-sorts.sorts (sort_names p) c.as_slice-2.result.now c.args.parts.now.funs named c.as_slice-2.ensures ∙ e)) c.in_err-funs.ensures

pub returns-in_err-check_rule_count : goal.returns-in_err-check_rule_count
returns-in_err-check_rule_count c =
    let p = rparts c.args.parts.now in
    let A = sorts_tests p in
    let B = funs_tests p in
    let C = rule_count p.rules in
    let D = rules_tests p [] p.rules in
    let named = sort_names_along c.as_slice.result.now c.args.parts.now.sorts c.in_ok-sorts.sorts c.as_slice.ensures c.in_ok-sorts.ensures.1 in
    fault_up (tests p) c.from_residual-in_err-check_rule_count.result c.in_err-check_rule_count.field-0.0 (IsResolution p) c.from_residual-in_err-check_rule_count.ensures.1
    (count_fails A B C D c.in_err-check_rule_count.field-0.0 (sorts_along c.as_slice.result.now c.args.parts.now.sorts c.as_slice.ensures ∙ c.in_ok-sorts.ensures.0) (funs_along c.in_ok-sorts.sorts (sort_names p) c.as_slice-2.result.now c.args.parts.now.funs named c.as_slice-2.ensures ∙ c.in_ok-funs.ensures.0)
    (rules_along c.as_slice-3.result.now c.args.parts.now.rules c.as_slice-3.ensures ∙ c.in_err-check_rule_count.ensures))

pub resolve_rules-requires-clause-kinds : goal.resolve_rules-requires-clause-kinds
resolve_rules-requires-clause-kinds c =
    let p = rparts c.args.parts.now in
    let named = sort_names_along c.as_slice.result.now c.args.parts.now.sorts c.in_ok-sorts.sorts c.as_slice.ensures c.in_ok-sorts.ensures.1 in
    kinds_along c.in_ok-sorts.sorts (sort_names p) c.as_slice-2.result.now c.args.parts.now.funs (tys c.in_ok-funs.funs.kinds) named c.as_slice-2.ensures c.in_ok-funs.ensures.1.1

pub returns-in_err-rules : goal.returns-in_err-rules
returns-in_err-rules c =
    let p = rparts c.args.parts.now in
    let A = sorts_tests p in
    let B = funs_tests p in
    let C = rule_count p.rules in
    let D = rules_tests p [] p.rules in
    let named = sort_names_along c.as_slice.result.now c.args.parts.now.sorts c.in_ok-sorts.sorts c.as_slice.ensures c.in_ok-sorts.ensures.1 in
    handed D (tests p) c.from_residual-in_err-rules.result c.in_err-rules.field-0.0 _ (IsResolution p) c.from_residual-in_err-rules.ensures.1
    (λ f e. before_rules A B C D (sorts_along c.as_slice.result.now c.args.parts.now.sorts c.as_slice.ensures ∙ c.in_ok-sorts.ensures.0) (funs_along c.in_ok-sorts.sorts (sort_names p) c.as_slice-2.result.now c.args.parts.now.funs named c.as_slice-2.ensures ∙ c.in_ok-funs.ensures.0)
    (rules_along c.as_slice-3.result.now c.args.parts.now.rules c.as_slice-3.ensures ∙ c.in_ok-check_rule_count.ensures) ∙ e) c.in_err-rules.ensures

pub returns : goal.returns
returns c =
    let p = rparts c.args.parts.now in
    let A = sorts_tests p in
    let B = funs_tests p in
    let C = rule_count p.rules in
    let D = rules_tests p [] p.rules in
    let named = sort_names_along c.as_slice.result.now c.args.parts.now.sorts c.in_ok-sorts.sorts c.as_slice.ensures c.in_ok-sorts.ensures.1 in (
      before_rules A B C D (sorts_along c.as_slice.result.now c.args.parts.now.sorts c.as_slice.ensures ∙ c.in_ok-sorts.ensures.0) (funs_along c.in_ok-sorts.sorts (sort_names p) c.as_slice-2.result.now c.args.parts.now.funs named c.as_slice-2.ensures ∙ c.in_ok-funs.ensures.0)
          (rules_along c.as_slice-3.result.now c.args.parts.now.rules c.as_slice-3.ensures ∙ c.in_ok-check_rule_count.ensures) ∙ c.in_ok-rules.ensures.0,
      record {
        sorts = named;
        funs = fun_names_along c.as_slice-2.result.now c.args.parts.now.funs c.in_ok-funs.funs.names c.as_slice-2.ensures c.in_ok-funs.ensures.1.0;
        kinds = kinds_along c.in_ok-sorts.sorts (sort_names p) c.as_slice-2.result.now c.args.parts.now.funs (tys c.in_ok-funs.funs.kinds) named c.as_slice-2.ensures c.in_ok-funs.ensures.1.1;
        rules = c.in_ok-rules.ensures.1;
      },
    )
