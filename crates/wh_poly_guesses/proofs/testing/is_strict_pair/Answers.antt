use Rattle.wh_poly_guesses.specs.Lines.{IsLineOfPair, IsUncoveredPair, run_of_pair}
use Rattle.wh_poly_guesses.proofs.LineLemmas.{matched_some, strict_is_met}
use Rattle.std.proofs.Common.{false, true}
use Rattle.wh_poly_guesses.proofs.testing.is_strict_pair.Goals as goal

pub returns-in-Some : goal.returns-in-Some
returns-in-Some c =
    let run = run_of_pair c.args.system.now c.args.readings.now c.args.pair.now in
    strict_is_met (run false) (run true) c.in-Some.line
    (matched_some c.in_ok-line.field-0 c.in-Some.line (IsUncoveredPair c.args.system.now c.args.readings.now c.args.pair.now)
    (IsLineOfPair c.args.system.now c.args.readings.now c.args.pair.now) c.in-Some.is c.in_ok-line.ensures)
