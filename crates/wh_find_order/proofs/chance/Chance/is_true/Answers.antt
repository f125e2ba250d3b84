use Rattle.std.proofs.Common.{◌≡◌, true, get_or, rules}
use Rattle.wh_sat_trail.specs.Watch.{nothing}
use Rattle.wh_sat.specs.Solving.{literal_true}
use Rattle.wh_sat.proofs.Assuring.{clause_true_by}
use Rattle.wh_poly_blocking.specs.Sizes.{value_of}
use Rattle.wh_find_order.proofs.chance.Chance.is_true.Goals as goal

pub returns-then-holds : goal.returns-then-holds
returns-then-holds c =
    let v = value_of c.args.values.now in
    let cl = c.args.clause.now in
    let i = c.loop-place.place in
    let e : literal_true v (get_or cl i nothing) ≡ true = search rules in
    clause_true_by v cl i nothing c.loop-place-test.true e
