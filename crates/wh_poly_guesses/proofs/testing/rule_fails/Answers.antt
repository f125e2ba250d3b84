use Rattle.std.proofs.Common.{true, false, rules}
use Rattle.wh_hopoly.specs.Erase.{transfers}
use Rattle.wh_polycheck.specs.ReadingsView.{readings_data}
use Rattle.wh_polycheck.specs.Covering.{rule_run}
use Rattle.wh_poly_guesses.specs.Lines.{IsLine, IsNotMet}
use Rattle.wh_poly_guesses.proofs.LineLemmas.{told_missing}
use Rattle.wh_poly_guesses.proofs.testing.rule_fails.Goals as goal

pub returns : goal.returns
returns c r at =
    let left = rule_run (readings_data c.args.readings.now) r false in
    let right = rule_run (readings_data c.args.readings.now) r true in
    told_missing c.in_ok-rule_line.field-0 (IsNotMet left right) (λ ms. IsLine left right (transfers ms)) c.is_none.result (search rules) (c.in_ok-rule_line.ensures r at)
