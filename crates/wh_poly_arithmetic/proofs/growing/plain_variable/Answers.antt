-- The only factor has no arguments.
use Rattle.std.proofs.Common.{rules, ◌≡◌, ◌≤◌, arith, length}
use Rattle.wh_poly.specs.declared.polynomial.Monomial.{out-Monomial}
use Rattle.wh_poly_arithmetic.proofs.RoomLaws.{only_variable}
use Rattle.wh_poly_arithmetic.proofs.growing.plain_variable.Goals as goal

pub returns-then-is_empty : goal.returns-then-is_empty
returns-then-is_empty c =
    let m = out-Monomial c.args.item.now in
    let xs = c.as_slice-factors.result.now in
    let one : m.coefficient ≡ 1 = (let z = c.if-item-ne1.false in omega (arith, z)) in
    let alone : length xs ≡ 1 = (let z = c.if-factors-ne1.false in omega (arith, z)) in
    let none : length c.as_slice.result.now ≤ 0 = search rules in
    only_variable m.coefficient m.atoms xs c.index-factors-0.result c.as_slice.result.now one c.as_slice-factors.ensures alone c.index-factors-0.is c.as_slice.ensures none
