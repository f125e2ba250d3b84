-- A side of a rule of a well-made system is a typed expression.
use Rattle.std.proofs.Common.{true, false}
use Rattle.wh_terms.specs.Erase.{rewrite_rule}
use Rattle.wh_system.specs.SystemView.{system_data}
use Rattle.wh_system.proofs.MadeDecided.{system_is_well_made}
use Rattle.wh_hopoly.specs.Erase.{interpretations}
use Rattle.wh_polycheck.proofs.SideFacts.{rule_there, rule_side_typed, rule_side_normal, rule_side_fault}
use Rattle.wh_polycheck.proofs.sides.side_of_rule.Goals as goal

pub normal_of_side-requires-clause-typed : goal.normal_of_side-requires-clause-typed
normal_of_side-requires-clause-typed c =
    let d = system_data c.args.system.now in
    let x = c.index-rules-rule.result in
    let there = rule_there c.rules.result.now d.rules c.args.rule x c.rules.ensures c.requires.rule c.index-rules-rule.is in
    rule_side_typed d (system_is_well_made c.args.system.now) (interpretations c.args.readings.now.symbols.now) c.requires.proper.interpreted c.args.rule
    (rewrite_rule x) there true

pub normal_of_side-requires-else-right-clause-typed : goal.normal_of_side-requires-else-right-clause-typed
normal_of_side-requires-else-right-clause-typed c =
    let d = system_data c.args.system.now in
    let x = c.index-rules-rule.result in
    let there = rule_there c.rules.result.now d.rules c.args.rule x c.rules.ensures c.requires.rule c.index-rules-rule.is in
    rule_side_typed d (system_is_well_made c.args.system.now) (interpretations c.args.readings.now.symbols.now) c.requires.proper.interpreted c.args.rule
    (rewrite_rule x) there false

pub returns-then-right-clause-ok : goal.returns-then-right-clause-ok
returns-then-right-clause-ok c = λ r e.
    let d = system_data c.args.system.now in
    let x = c.index-rules-rule.result in
    let there = rule_there c.rules.result.now d.rules c.args.rule x c.rules.ensures c.requires.rule c.index-rules-rule.is in
    rule_side_normal d (system_is_well_made c.args.system.now) (interpretations c.args.readings.now.symbols.now) c.requires.proper.interpreted c.args.rule
    (rewrite_rule x) there c.args.right true c.if-right.true c.normal_of_side.result c.normal_of_side.ensures.ok r e

pub returns-then-right-clause-fault : goal.returns-then-right-clause-fault
returns-then-right-clause-fault c = λ r e.
    let d = system_data c.args.system.now in
    let x = c.index-rules-rule.result in
    let there = rule_there c.rules.result.now d.rules c.args.rule x c.rules.ensures c.requires.rule c.index-rules-rule.is in
    rule_side_fault d (interpretations c.args.readings.now.symbols.now) c.args.rule (rewrite_rule x) there c.args.right true c.if-right.true
    c.normal_of_side.result c.normal_of_side.ensures.fault r e

pub returns-else-right-clause-ok : goal.returns-else-right-clause-ok
returns-else-right-clause-ok c = λ r e.
    let d = system_data c.args.system.now in
    let x = c.index-rules-rule.result in
    let there = rule_there c.rules.result.now d.rules c.args.rule x c.rules.ensures c.requires.rule c.index-rules-rule.is in
    rule_side_normal d (system_is_well_made c.args.system.now) (interpretations c.args.readings.now.symbols.now) c.requires.proper.interpreted c.args.rule
    (rewrite_rule x) there c.args.right false c.if-right.false c.normal_of_side-else-right.result c.normal_of_side-else-right.ensures.ok r e

pub returns-else-right-clause-fault : goal.returns-else-right-clause-fault
returns-else-right-clause-fault c = λ r e.
    let d = system_data c.args.system.now in
    let x = c.index-rules-rule.result in
    let there = rule_there c.rules.result.now d.rules c.args.rule x c.rules.ensures c.requires.rule c.index-rules-rule.is in
    rule_side_fault d (interpretations c.args.readings.now.symbols.now) c.args.rule (rewrite_rule x) there c.args.right false c.if-right.false
    c.normal_of_side-else-right.result c.normal_of_side-else-right.ensures.fault r e
