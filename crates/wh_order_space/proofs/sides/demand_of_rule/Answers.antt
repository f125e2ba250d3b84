use Rattle.std.proofs.Common.{◌≡◌, length, ap, ◌∙◌, sym, arith}
use Rattle.wh_terms.specs.Erase.{rewrite_rule}
use Rattle.wh_reduction_pairs.specs.TaskView.{task_data}
use Rattle.wh_order_space.proofs.SideLemmas.{between_rule, mapped_length}
use Rattle.wh_order_space.proofs.sides.demand_of_rule.Goals as goal

pub returns : goal.returns
returns c =
    let T = task_data c.args.task.now in
    let long : length c.rules.result.now ≡ length T.rules = sym (mapped_length rewrite_rule c.rules.result.now) ∙ ap length c.rules.ensures in
    between_rule T c.args.spots.now c.args.number c.in_ok-from.from c.in_ok-to.to c.between.result (omega (arith, long)) c.in_ok-from.ensures c.in_ok-to.ensures c.between.ensures

pub rule_side-requires : goal.rule_side-requires
rule_side-requires c =
    let T = task_data c.args.task.now in
    let long : length c.rules.result.now ≡ length T.rules = sym (mapped_length rewrite_rule c.rules.result.now) ∙ ap length c.rules.ensures in
    omega (arith, long)

pub rule_side-requires-2 : goal.rule_side-requires-2
rule_side-requires-2 c =
    let T = task_data c.args.task.now in
    let long : length c.rules.result.now ≡ length T.rules = sym (mapped_length rewrite_rule c.rules.result.now) ∙ ap length c.rules.ensures in
    omega (arith, long)
