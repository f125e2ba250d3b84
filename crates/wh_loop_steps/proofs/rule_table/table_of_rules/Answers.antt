use Rattle.std.proofs.Common.{sym, ◌∙◌, arith}
use Rattle.wh_terms.specs.Erase.{rewrite_rule, rewrite_rules}
use Rattle.wh_step.proofs.RedexLemmas.{rule_now}
use Rattle.wh_step.proofs.RootLaws.{rule_made}
use Rattle.wh_loop_steps.proofs.CandidateLemmas.{rule_table_next, rule_table_all}
use Rattle.wh_loop_steps.proofs.rule_table.table_of_rules.Goals as goal

pub add_rule-requires : goal.add_rule-requires
add_rule-requires c =
    let (S, made, count) = c.requires.well_made in
    let rules = c.args.rules.now in
    let i = c.loop-number.number in
    (S, rule_made S made i (rewrite_rule c.index-rules-number.result) (rule_now rules i c.index-rules-number.result c.loop-number-test.true c.index-rules-number.is), count ∙ sym c.loop-number.invariant.0)

pub loop-number-preserved : goal.loop-number-preserved
loop-number-preserved c =
    let rules = c.args.rules.now in
    let i = c.loop-number.number in
    let r = c.index-rules-number.result in (
      c.in_ok-add_rule.ensures.count ∙ c.loop-number.invariant.0,
      rule_table_next (rewrite_rules rules) i (rewrite_rule r) c.loop-number.table c.add_rule.new.table (rule_now rules i r c.loop-number-test.true c.index-rules-number.is) c.loop-number.invariant.1 c.in_ok-add_rule.ensures.kept
          c.in_ok-add_rule.ensures.added,
    )

pub returns : goal.returns
returns c = rule_table_all c.args.rules.now c.loop-number.number c.loop-number.table (omega arith) c.loop-number.invariant.1
