use Rattle.wh_terms.specs.Erase.{rewrite_rule, symbols, tm}
use Rattle.wh_system.specs.SystemView.{system_data}
use Rattle.wh_order_sides.proofs.SideLemmas.{rule_there, told_rule}
use Rattle.wh_order_sides.proofs.sides.extended_rule.Goals as goal

pub returns : goal.returns
returns c r e =
    let d = system_data c.args.system.now in
    let x = c.index-rules-rule.result in
    told_rule (symbols c.signature.result.now) d.symbols d.rules c.args.rule (rewrite_rule x) r (tm c.side_of.result.now) c.args.right c.extended_side.result c.signature.ensures
    (rule_there c.rules.result.now d.rules c.args.rule x c.rules.ensures c.requires c.index-rules-rule.is) e c.side_of.ensures c.extended_side.ensures
