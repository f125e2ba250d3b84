use Rattle.std.proofs.Common.{get_or}
use Rattle.wh_terms.specs.Erase.{rewrite_rule}
use Rattle.wh_pairs.proofs.ByPlace.{number_at, contains_at, before_more, before_all}
use Rattle.wh_reduction_pairs.specs.TaskView.{task_data}
use Rattle.wh_usable.specs.Closed.{IsClosedRule}
use Rattle.wh_usable.proofs.Firsts.{IsAt, is_at, first_not}
use Rattle.wh_usable.proofs.RuleAt.{rule_at}
use Rattle.wh_usable.proofs.closed.first_open_rule.Goals as goal

pub is_closed_rule-requires : goal.is_closed_rule-requires
is_closed_rule-requires c =
    let T = task_data c.args.task.now in
    let i = c.loop-number.number-index in
    let n = get_or T.covered i 0 in
    let rule = c.index-rules-number.result in
    let at = rule_at T.rules c.rules.result.now n rule c.rules.ensures (c.requires.task.are_rules i 0 c.loop-number-test.true) c.index-rules-number.is in
    c.is_well_made.ensures.rules.each (rewrite_rule rule) (contains_at T.rules n (rewrite_rule rule) at)

pub returns-then-not-is_closed_rule : goal.returns-then-not-is_closed_rule
returns-then-not-is_closed_rule c =
    let T = task_data c.args.task.now in
    let i = c.loop-number.number-index in
    let n = get_or T.covered i 0 in
    let rule = c.index-rules-number.result in
    let at = rule_at T.rules c.rules.result.now n rule c.rules.ensures (c.requires.task.are_rules i 0 c.loop-number-test.true) c.index-rules-number.is in
    first_not (IsClosedRule T.symbols T.rules T.covered) T.rules T.covered i n (rewrite_rule rule) (number_at T.covered i c.loop-number-test.true) at
    c.loop-number.invariant (λ closed. cc ((c.is_closed_rule.ensures T.covered c.requires.table).1 closed, c.if-not-is_closed_rule.true))

pub loop-number-preserved : goal.loop-number-preserved
loop-number-preserved c =
    let T = task_data c.args.task.now in
    let i = c.loop-number.number-index in
    let n = get_or T.covered i 0 in
    let rule = c.index-rules-number.result in
    let at = rule_at T.rules c.rules.result.now n rule c.rules.ensures (c.requires.task.are_rules i 0 c.loop-number-test.true) c.index-rules-number.is in
    let Q = IsClosedRule T.symbols T.rules T.covered in
    before_more (IsAt Q T.rules) T.covered i n c.loop-number.invariant (number_at T.covered i c.loop-number-test.true)
    (is_at Q T.rules n (rewrite_rule rule) at ((c.is_closed_rule.ensures T.covered c.requires.table).0 c.if-not-is_closed_rule.false))

pub returns : goal.returns
returns c n r found at =
    let T = task_data c.args.task.now in
    before_all (IsAt (IsClosedRule T.symbols T.rules T.covered) T.rules) T.covered c.loop-number.number-index n c.loop-number.invariant
    c.loop-number-test.false found r at
