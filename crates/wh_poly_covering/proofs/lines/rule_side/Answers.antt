use Rattle.wh_poly.specs.Erase.{poly}
use Rattle.wh_poly.specs.declared.polynomial.Poly.{Poly}
use Rattle.wh_polycheck.specs.ReadingsView.{readings_data}
use Rattle.wh_poly_covering.proofs.SideLemmas.{rule_side_is, rule_exceeds}
use Rattle.wh_poly_covering.proofs.LineLemmas.{told_cause}
use Rattle.wh_poly_covering.proofs.lines.rule_side.Goals as goal

pub returns-in-Ok : goal.returns-in-Ok
returns-in-Ok c r at =
    rule_side_is (readings_data c.args.readings.now) r c.args.right (poly c.in-Ok.side) c.requires.proper.normal.symbols (c.in-Ok.ensures.ok r at)

pub returns-in-Err-Because : goal.returns-in-Err-Because
returns-in-Err-Because c r at =
    rule_exceeds (readings_data c.args.readings.now) r c.args.right c.in-Err-Because.fault c.limit_of.result c.limit_of.ensures
    (told_cause Poly c.in-Err-Because.field-0 c.in-Err-Because.fault _ c.in-Err-Because.field-0-is (c.in-Err-Because.ensures.fault r at))
