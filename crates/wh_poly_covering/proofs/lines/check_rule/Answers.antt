use Rattle.std.proofs.Common.{true, false}
use Rattle.wh_system.specs.SystemView.{system_data}
use Rattle.wh_poly_covering.proofs.Walks.{some_at}
use Rattle.wh_poly.specs.Erase.{poly}
use Rattle.wh_hopoly.specs.Erase.{transfers}
use Rattle.wh_polycheck.specs.ReadingsView.{readings_data}
use Rattle.wh_polycheck.specs.Covering.{rule_run}
use Rattle.wh_poly_covering.proofs.LineLemmas.{left_exceeds, right_exceeds}
use Rattle.wh_poly_covering.proofs.lines.check_rule.Goals as goal

pub returns-in_err-left : goal.returns-in_err-left
returns-in_err-left c r at =
    left_exceeds (rule_run (readings_data c.args.readings.now) r false) (rule_run (readings_data c.args.readings.now) r true) false (transfers c.args.moves.now) c.from_residual.result c.in_err-left.field-0.0 _
    c.from_residual.ensures.1 (c.in_err-left.ensures r at)

pub returns-in_err-right : goal.returns-in_err-right
returns-in_err-right c r at =
    right_exceeds (rule_run (readings_data c.args.readings.now) r false) (rule_run (readings_data c.args.readings.now) r true) (poly c.in_ok-left.left) false (transfers c.args.moves.now) c.from_residual-in_err-right.result c.in_err-right.field-0.0 _
    c.from_residual-in_err-right.ensures.1 (c.in_ok-left.ensures r at) (c.in_err-right.ensures r at)

pub check_line-requires-clause-left : goal.check_line-requires-clause-left
check_line-requires-clause-left c =
    let (r, at) = some_at (system_data c.args.system.now).rules c.args.rule c.requires.rule in
    (rule_run (readings_data c.args.readings.now) r false, c.in_ok-left.ensures r at)

pub check_line-requires-clause-right : goal.check_line-requires-clause-right
check_line-requires-clause-right c =
    let (r, at) = some_at (system_data c.args.system.now).rules c.args.rule c.requires.rule in
    (rule_run (readings_data c.args.readings.now) r true, c.in_ok-right.ensures r at)
