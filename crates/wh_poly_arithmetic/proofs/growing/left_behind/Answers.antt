-- What is left is shared by the monomials.
use Rattle.std.proofs.Common.{◌≡◌, ◌∙◌, arith, length}
use Rattle.wh_poly.specs.Limits.{weight}
use Rattle.wh_poly_arithmetic.specs.Growing.{monomial_count}
use Rattle.wh_poly.specs.Erase.{poly}
use Rattle.wh_poly_arithmetic.proofs.RoomLaws.{count_is, left_to_none, left_to_each}
use Rattle.wh_poly_arithmetic.proofs.growing.left_behind.Goals as goal

pub returns-then-count-eq0 : goal.returns-then-count-eq0
returns-then-count-eq0 c =
    let none : length c.as_slice-count.result.now ≡ 0 = (let z = c.if-count-eq0.true in omega (arith, z)) in
    left_to_none (weight (poly c.args.p.now)) (monomial_count (poly c.args.p.now)) c.in-Some.left
    (count_is c.args.p.now c.as_slice-count.result.now c.as_slice-count.ensures ∙ none) c.in-Some.ensures.0

pub returns : goal.returns
returns c =
    left_to_each (weight (poly c.args.p.now)) (monomial_count (poly c.args.p.now)) (length c.as_slice-count.result.now) c.in-Some.left
    (count_is c.args.p.now c.as_slice-count.result.now c.as_slice-count.ensures) c.in-Some.ensures.0
