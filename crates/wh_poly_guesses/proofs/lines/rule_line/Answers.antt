use Rattle.std.proofs.Common.{true, false}
use Rattle.wh_system.specs.SystemView.{system_data}
use Rattle.wh_poly.specs.Erase.{poly}
use Rattle.wh_polycheck.specs.ReadingsView.{readings_data}
use Rattle.wh_polycheck.specs.Covering.{rule_run}
use Rattle.wh_poly_covering.specs.Lines.{IsSide}
use Rattle.wh_poly_covering.proofs.Walks.{some_at}
use Rattle.wh_poly_guesses.specs.Lines.{HasNoSide}
use Rattle.wh_poly_guesses.proofs.LineLemmas.{matched_some, matched_none, no_left, no_right}
use Rattle.wh_poly_guesses.proofs.lines.rule_line.Goals as goal

pub line-requires-clause-left : goal.line-requires-clause-left
line-requires-clause-left c =
    let (r, at) = some_at (system_data c.args.system.now).rules c.args.rule c.requires.rule in
    let run = rule_run (readings_data c.args.readings.now) r false in
    (run, matched_some c.in_ok-left.field-0 c.in-Some.left (HasNoSide run) (λ p. IsSide run (poly p)) c.in-Some.is (c.in_ok-left.ensures r at))

pub line-requires-clause-right : goal.line-requires-clause-right
line-requires-clause-right c =
    let (r, at) = some_at (system_data c.args.system.now).rules c.args.rule c.requires.rule in
    let run = rule_run (readings_data c.args.readings.now) r true in
    (run, matched_some c.in_ok-right.field-0 c.in-Some-2.right (HasNoSide run) (λ p. IsSide run (poly p)) c.in-Some-2.is (c.in_ok-right.ensures r at))

pub returns : goal.returns
returns c r at =
    let left = rule_run (readings_data c.args.readings.now) r false in
    let right = rule_run (readings_data c.args.readings.now) r true in
    c.line.ensures left right (matched_some c.in_ok-left.field-0 c.in-Some.left (HasNoSide left) (λ p. IsSide left (poly p)) c.in-Some.is (c.in_ok-left.ensures r at))
    (matched_some c.in_ok-right.field-0 c.in-Some-2.right (HasNoSide right) (λ p. IsSide right (poly p)) c.in-Some-2.is (c.in_ok-right.ensures r at))

pub returns-in_default : goal.returns-in_default
returns-in_default c r at =
    let left = rule_run (readings_data c.args.readings.now) r false in
    let right = rule_run (readings_data c.args.readings.now) r true in
    no_left left right (matched_none c.in_ok-left.field-0 (HasNoSide left) (λ p. IsSide left (poly p)) c.in_default.is (c.in_ok-left.ensures r at))

pub returns-in_default-2 : goal.returns-in_default-2
returns-in_default-2 c r at =
    let left = rule_run (readings_data c.args.readings.now) r false in
    let right = rule_run (readings_data c.args.readings.now) r true in
    no_right left right (matched_none c.in_ok-right.field-0 (HasNoSide right) (λ p. IsSide right (poly p)) c.in_default-2.is (c.in_ok-right.ensures r at))
