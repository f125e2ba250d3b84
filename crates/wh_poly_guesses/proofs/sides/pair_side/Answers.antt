use Rattle.wh_system.specs.SystemView.{system_data}
use Rattle.wh_pairs.specs.PairData.{pair_data}
use Rattle.wh_poly.specs.Erase.{poly}
use Rattle.wh_polycheck.specs.ReadingsView.{readings_data}
use Rattle.wh_polycheck.specs.SideResults.{IsFaultOfPairSide}
use Rattle.wh_poly_covering.proofs.SideLemmas.{pair_side_is}
use Rattle.wh_poly_guesses.proofs.ToldLemmas.{because_so}
use Rattle.wh_poly_guesses.proofs.LineLemmas.{no_pair_side}
use Rattle.wh_poly_guesses.proofs.sides.pair_side.Goals as goal

pub returns-in-Ok : goal.returns-in-Ok
returns-in-Ok c =
    let d = system_data c.args.system.now in
    pair_side_is d.symbols d.rules (readings_data c.args.readings.now) (pair_data c.args.pair.now) c.args.right (poly c.in-Ok.side)
    c.requires.proper.normal c.in-Ok.ensures.ok

pub returns-in-Err-Because : goal.returns-in-Err-Because
returns-in-Err-Because c =
    let d = system_data c.args.system.now in
    let R = readings_data c.args.readings.now in
    no_pair_side d.symbols d.rules R (pair_data c.args.pair.now) c.args.right c.in-Err-Because.field-0-0
    (because_so (Unit {0}) c.in-Err-Because.field-0 c.in-Err-Because.field-0-0
    (IsFaultOfPairSide d.symbols d.rules R.symbols R.marks (pair_data c.args.pair.now) c.args.right) c.in-Err-Because.field-0-is c.in-Err-Because.ensures.fault)
