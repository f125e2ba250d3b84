use Rattle.std.proofs.Common.{true, false}
use Rattle.wh_system.specs.SystemView.{system_data}
use Rattle.wh_poly.specs.Erase.{poly}
use Rattle.wh_polycheck.specs.ReadingsView.{readings_data}
use Rattle.wh_polycheck.specs.Covering.{rule_run}
use Rattle.wh_poly_covering.specs.Lines.{IsSide}
use Rattle.wh_poly_covering.proofs.Walks.{some_at}
use Rattle.wh_poly_guesses.specs.Lines.{HasNoSide}
use Rattle.wh_poly_guesses.proofs.LineLemmas.{matched_some}
use Rattle.wh_poly_guesses.proofs.testing.rule_outcome.Goals as goal

pub wanting-requires-clause-left : goal.wanting-requires-clause-left
wanting-requires-clause-left c =
    let (r, at) = some_at (system_data c.args.system.now).rules c.args.rule c.requires.rule in
    let run = rule_run (readings_data c.args.readings.now) r false in
    (run, matched_some c.in_ok-left.field-0 c.in-Some.left (HasNoSide run) (λ p. IsSide run (poly p)) c.in-Some.is (c.in_ok-left.ensures r at))

pub wanting-requires-clause-right : goal.wanting-requires-clause-right
wanting-requires-clause-right c =
    let (r, at) = some_at (system_data c.args.system.now).rules c.args.rule c.requires.rule in
    let run = rule_run (readings_data c.args.readings.now) r true in
    (run, matched_some c.in_ok-right.field-0 c.in-Some-2.right (HasNoSide run) (λ p. IsSide run (poly p)) c.in-Some-2.is (c.in_ok-right.ensures r at))
