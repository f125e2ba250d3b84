-- There is room for the product.
use Rattle.std.proofs.Common.{rules, ◌≡◌, ◌≤◌, ap, sym, ◌∙◌, arith, length, Err}
use Rattle.wh_poly.specs.Arithmetic.{multiply}
use Rattle.wh_poly.specs.Excesses.{ExceedsAs}
use Rattle.wh_poly_arithmetic.specs.Growing.{first_value}
use Rattle.wh_poly.specs.Erase.{poly, factors}
use Rattle.wh_poly_arithmetic.proofs.RoomLaws.{ends_with_one, last_ordered, because_is, last_product_fits}
use Rattle.wh_poly_arithmetic.proofs.growing.finish.Goals as goal

pub returns-then-is_empty : goal.returns-then-is_empty
returns-then-is_empty c =
    let g = c.args.so_far in
    let none : length c.as_slice.result.now ≤ 0 = search rules in
    let one : g.coefficient ≡ 1 = (let z = c.if-coefficient-eq1.true in omega (arith, z)) in
    ends_with_one (poly c.in-Some.p) (first_value g.first) g.coefficient c.as_slice.result.now (factors g.factors) c.requires.ordered (sym (ap first_value c.in-Some.is)) one c.as_slice.ensures none

pub product-requires-clause-right : goal.product-requires-clause-right
product-requires-clause-right c = last_ordered c.args.so_far.coefficient (factors c.args.so_far.factors) (poly c.in_ok-last.last) c.requires.positive c.in_ok-last.ensures

pub unreachable-requires : goal.unreachable-requires
unreachable-requires c =
    last_product_fits c.args.so_far c.in-Some.p (poly c.in_ok-last.last) c.in-Err-Because.field-0-0 c.requires c.in-Some.is c.in_ok-last.ensures
    (because_is c.product.result c.in-Err-Because.field-0-0 (λ e. ExceedsAs e (multiply (poly c.in-Some.p) (poly c.in_ok-last.last))) (c.in-Err-Because.is ∙ ap Err c.in-Err-Because.field-0-is) c.product.ensures.fault)
