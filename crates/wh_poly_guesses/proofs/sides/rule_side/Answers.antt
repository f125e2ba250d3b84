use Rattle.wh_system.specs.CanonicalView.{side_of}
use Rattle.wh_poly.specs.Erase.{poly}
use Rattle.wh_polycheck.specs.ReadingsView.{readings_data}
use Rattle.wh_polycheck.specs.SideResults.{IsFaultOfSide}
use Rattle.wh_poly_covering.proofs.SideLemmas.{rule_side_is}
use Rattle.wh_poly_guesses.proofs.ToldLemmas.{because_so}
use Rattle.wh_poly_guesses.proofs.LineLemmas.{no_rule_side}
use Rattle.wh_poly_guesses.proofs.sides.rule_side.Goals as goal

pub returns-in-Ok : goal.returns-in-Ok
returns-in-Ok c r at =
    rule_side_is (readings_data c.args.readings.now) r c.args.right (poly c.in-Ok.side) c.requires.proper.normal.symbols (c.in-Ok.ensures.ok r at)

pub returns-in-Err-Because : goal.returns-in-Err-Because
returns-in-Err-Because c r at =
    let R = readings_data c.args.readings.now in
    no_rule_side R r c.args.right c.in-Err-Because.field-0-0
    (because_so (Unit {0}) c.in-Err-Because.field-0 c.in-Err-Because.field-0-0 (IsFaultOfSide R.symbols r.metas (side_of c.args.right r))
    c.in-Err-Because.field-0-is (c.in-Err-Because.ensures.fault r at))
