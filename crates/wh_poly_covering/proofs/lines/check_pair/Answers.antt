use Rattle.std.proofs.Common.{true, false}
use Rattle.wh_system.specs.SystemView.{system_data}
use Rattle.wh_pairs.specs.PairData.{pair_data}
use Rattle.wh_poly.specs.Erase.{poly}
use Rattle.wh_hopoly.specs.Erase.{transfers}
use Rattle.wh_polycheck.specs.ReadingsView.{readings_data}
use Rattle.wh_polycheck.specs.Covering.{pair_run}
use Rattle.wh_poly_covering.proofs.LineLemmas.{left_exceeds, right_exceeds}
use Rattle.wh_poly_covering.proofs.lines.check_pair.Goals as goal

pub returns-in_err-left : goal.returns-in_err-left
returns-in_err-left c =
    let d = system_data c.args.system.now in
    let run = pair_run d.symbols d.rules (readings_data c.args.readings.now) (pair_data c.args.pair.now) in
    left_exceeds (run false) (run true) c.args.strict (transfers c.args.moves.now) c.from_residual.result c.in_err-left.field-0.0 _
    c.from_residual.ensures.1 c.in_err-left.ensures

pub returns-in_err-right : goal.returns-in_err-right
returns-in_err-right c =
    let d = system_data c.args.system.now in
    let run = pair_run d.symbols d.rules (readings_data c.args.readings.now) (pair_data c.args.pair.now) in
    right_exceeds (run false) (run true) (poly c.in_ok-left.left) c.args.strict (transfers c.args.moves.now)
    c.from_residual-in_err-right.result c.in_err-right.field-0.0 _ c.from_residual-in_err-right.ensures.1 c.in_ok-left.ensures
    c.in_err-right.ensures
