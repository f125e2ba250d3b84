-- No factors are left where the list is empty.
use Rattle.std.proofs.Common.{rules, ◌≤◌, length}
use Rattle.wh_poly.specs.declared.polynomial.Monomial.{out-Monomial}
use Rattle.wh_poly.proofs.Lists.{no_factors_left}
use Rattle.wh_poly_arithmetic.proofs.scaling.row_of_product.Goals as goal

pub multiple-requires-clause-alone : goal.multiple-requires-clause-alone
multiple-requires-clause-alone c =
    let none : length c.as_slice.result.now ≤ 0 = search rules in
    no_factors_left (out-Monomial c.args.item.now).atoms c.as_slice.result.now c.as_slice.ensures none
