-- Nothing has joined yet.
use Rattle.std.proofs.Common.{rules, ◌≡◌, ◌≤◌, arith, length}
use Rattle.wh_poly_arithmetic.proofs.RoomLaws.{grown_one}
use Rattle.wh_poly_arithmetic.proofs.growing.is_one.Goals as goal

pub returns-in-None : goal.returns-in-None
returns-in-None c _ =
    let g = c.args.so_far.now in
    let one : g.coefficient ≡ 1 = (let z = c.if-so_far-ne1.false in omega (arith, z)) in
    let none : length c.as_slice.result.now ≤ 0 = search rules in
    grown_one g c.as_slice.result.now c.in-None.is one c.as_slice.ensures none
