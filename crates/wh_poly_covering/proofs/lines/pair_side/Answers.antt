use Rattle.wh_system.specs.SystemView.{system_data}
use Rattle.wh_pairs.specs.PairData.{pair_data}
use Rattle.wh_poly.specs.Erase.{poly}
use Rattle.wh_poly.specs.declared.polynomial.Poly.{Poly}
use Rattle.wh_polycheck.specs.ReadingsView.{readings_data}
use Rattle.wh_poly_covering.proofs.SideLemmas.{pair_side_is, pair_exceeds}
use Rattle.wh_poly_covering.proofs.LineLemmas.{told_cause}
use Rattle.wh_poly_covering.proofs.lines.pair_side.Goals as goal

pub returns-in-Ok : goal.returns-in-Ok
returns-in-Ok c =
    let d = system_data c.args.system.now in
    pair_side_is d.symbols d.rules (readings_data c.args.readings.now) (pair_data c.args.pair.now) c.args.right (poly c.in-Ok.side)
    c.requires.proper.normal c.in-Ok.ensures.ok

pub returns-in-Err-Because : goal.returns-in-Err-Because
returns-in-Err-Because c =
    let d = system_data c.args.system.now in
    pair_exceeds d.symbols d.rules (readings_data c.args.readings.now) (pair_data c.args.pair.now) c.args.right c.in-Err-Because.fault
    c.limit_of.result c.limit_of.ensures
    (told_cause Poly c.in-Err-Because.field-0 c.in-Err-Because.fault _ c.in-Err-Because.field-0-is c.in-Err-Because.ensures.fault)
