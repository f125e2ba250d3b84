use Rattle.std.proofs.Common.{true, false}
use Rattle.wh_pairs.specs.PairData.{pair_data}
use Rattle.wh_system.specs.SystemView.{system_data}
use Rattle.wh_poly.specs.Erase.{poly}
use Rattle.wh_polycheck.specs.ReadingsView.{readings_data}
use Rattle.wh_polycheck.specs.Covering.{pair_run}
use Rattle.wh_poly_covering.specs.Lines.{IsSide}
use Rattle.wh_poly_guesses.specs.Lines.{HasNoSide}
use Rattle.wh_poly_guesses.proofs.LineLemmas.{matched_some}
use Rattle.wh_poly_guesses.proofs.lines.pair_line.Goals as goal

pub strict_line-requires-clause-left : goal.strict_line-requires-clause-left
strict_line-requires-clause-left c =
    let d = system_data c.args.system.now in
    let run = pair_run d.symbols d.rules (readings_data c.args.readings.now) (pair_data c.args.pair.now) false in
    (run, matched_some c.in_ok-left.field-0 c.in-Some.left (HasNoSide run) (λ p. IsSide run (poly p)) c.in-Some.is c.in_ok-left.ensures)

pub strict_line-requires-clause-right : goal.strict_line-requires-clause-right
strict_line-requires-clause-right c =
    let d = system_data c.args.system.now in
    let run = pair_run d.symbols d.rules (readings_data c.args.readings.now) (pair_data c.args.pair.now) true in
    (run, matched_some c.in_ok-right.field-0 c.in-Some-2.right (HasNoSide run) (λ p. IsSide run (poly p)) c.in-Some-2.is c.in_ok-right.ensures)

pub returns : goal.returns
returns c =
    let d = system_data c.args.system.now in
    let left = pair_run d.symbols d.rules (readings_data c.args.readings.now) (pair_data c.args.pair.now) false in
    let right = pair_run d.symbols d.rules (readings_data c.args.readings.now) (pair_data c.args.pair.now) true in
    c.strict_line.ensures left right (matched_some c.in_ok-left.field-0 c.in-Some.left (HasNoSide left) (λ p. IsSide left (poly p)) c.in-Some.is c.in_ok-left.ensures)
    (matched_some c.in_ok-right.field-0 c.in-Some-2.right (HasNoSide right) (λ p. IsSide right (poly p)) c.in-Some-2.is c.in_ok-right.ensures)
