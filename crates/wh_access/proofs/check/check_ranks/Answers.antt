use Rattle.std.proofs.Common.{◌≡◌, Some, length, ap, subst, arith}
use Rattle.std.proofs.lemmas.List.{length-map}
use Rattle.wh_terms.specs.Erase.{rewrite_rule}
use Rattle.wh_step_laws.specs.Ranks.{rank_of}
use Rattle.wh_system.specs.SystemView.{system_data}
use Rattle.wh_access.specs.Passing.{EachUsed, Passes}
use Rattle.wh_access.specs.Answered.{IsFirstIn}
use Rattle.wh_access.proofs.CheckLemmas.{hold_next, hold_all, first_without}
use Rattle.wh_access.proofs.MadeLemmas.{rule_here, few_metas, used_declared, left_nested}
use Rattle.wh_access.proofs.check.check_ranks.Goals as goal

pub first_break-requires-clause-few : goal.first_break-requires-clause-few
first_break-requires-clause-few c =
    let d = system_data c.args.system.now in
    let here = rule_here c.rules-rule-items.result.now d.rules c.loop-index.index c.rule-item.result c.rules-rule-items.ensures c.loop-index-test.true c.rule-item.is in
    omega (arith, few_metas d c.loop-index.index c.rule-item.result c.is_well_made.ensures here)

pub first_break-requires-clause-declared : goal.first_break-requires-clause-declared
first_break-requires-clause-declared c =
    let d = system_data c.args.system.now in
    let here = rule_here c.rules-rule-items.result.now d.rules c.loop-index.index c.rule-item.result c.rules-rule-items.ensures c.loop-index-test.true c.rule-item.is in
    used_declared d c.loop-index.index c.rule-item.result c.is_well_made.ensures here

pub first_break-requires-clause-nested : goal.first_break-requires-clause-nested
first_break-requires-clause-nested c =
    let d = system_data c.args.system.now in
    let here = rule_here c.rules-rule-items.result.now d.rules c.loop-index.index c.rule-item.result c.rules-rule-items.ensures c.loop-index-test.true c.rule-item.is in
    omega (arith, left_nested d c.loop-index.index (rewrite_rule c.rule-item.result) c.is_well_made.ensures here)

pub returns-in-Some-clause-first : goal.returns-in-Some-clause-first
returns-in-Some-clause-first c =
    let d = system_data c.args.system.now in
    let rank = rank_of c.args.ranks.now in
    let i = c.loop-index.index in
    let rule = rewrite_rule c.rule-item.result in
    let here = rule_here c.rules-rule-items.result.now d.rules i c.rule-item.result c.rules-rule-items.ensures c.loop-index-test.true c.rule-item.is in
    let first = subst (λ S. IsFirstIn (Passes S rank) rule (Some c.in-Some.meta)) c.signature.ensures c.in-Some.ensures in
    first_without (Passes d.symbols rank) d.rules i rule c.in-Some.meta c.loop-index.invariant here first

pub loop-index-preserved : goal.loop-index-preserved
loop-index-preserved c =
    let d = system_data c.args.system.now in
    let rank = rank_of c.args.ranks.now in
    let i = c.loop-index.index in
    let rule = rewrite_rule c.rule-item.result in
    let here = rule_here c.rules-rule-items.result.now d.rules i c.rule-item.result c.rules-rule-items.ensures c.loop-index-test.true c.rule-item.is in
    hold_next (Passes d.symbols rank) d.rules i rule c.loop-index.invariant here (subst (λ S. EachUsed (Passes S rank) rule) c.signature.ensures c.in_default.ensures)

pub returns-clause-passing : goal.returns-clause-passing
returns-clause-passing c =
    let d = system_data c.args.system.now in
    let n = c.loop-index.index in
    let count : length d.rules ≡ n =
    let all = ap length c.rules-rule-items.ensures in omega (arith, all, length-map c.rules-rule-items.result.now rewrite_rule, c.loop-index-test.false, c.loop-index.auto.index-end) in
    hold_all (Passes d.symbols (rank_of c.args.ranks.now)) d.rules n count c.loop-index.invariant
