-- Each row is that of the monomial at hand, and what exceeds in it does so in the product.
use Rattle.std.proofs.Common.{◌≡◌, ◌+◌, ◌-◌, ◌<◌, ap, sym, subst, ◌∙◌, arith, length}
use Rattle.wh_poly.specs.Polynomials.{Ordered}
use Rattle.wh_poly.specs.Arithmetic.{sum_poly, scale, multiply}
use Rattle.wh_poly.specs.Limits.{Exceeds}
use Rattle.wh_poly.specs.Excesses.{ExceedsAs}
use Rattle.wh_poly_arithmetic.specs.Totals.{total}
use Rattle.wh_poly.specs.Erase.{poly, atoms, sum_of}
use Rattle.wh_poly.specs.declared.polynomial.Monomial.{out-Monomial}
use Rattle.wh_poly.proofs.Lists.{poly_is}
use Rattle.wh_poly.proofs.FaultLaws.{ok_so, because_so, passed_on}
use Rattle.wh_poly.proofs.RowWalk.{multiply_adds, ordered_at, row_is_ordered, row_exceeds}
use Rattle.wh_poly_arithmetic.proofs.ProductWalk.{rows_end, total_exceeds}
use Rattle.wh_poly_arithmetic.proofs.products.product_by_rows.Goals as goal

pub row_of_product-requires-clause-positive : goal.row_of_product-requires-clause-positive
row_of_product-requires-clause-positive c =
    let same : poly c.args.a.now ≡ sum_of c.as_slice-items.result.now = poly_is c.args.a.now ∙ ap sum_of (sym c.as_slice-items.ensures) in
    let ordered : Ordered (sum_of c.as_slice-items.result.now) = subst Ordered same c.requires.left in
    let less : c.loop-i.i - 1 < length c.as_slice-items.result.now = omega (arith, c.loop-i.invariant.within, c.loop-i-test.true) in
    (ordered_at c.as_slice-items.result.now (c.loop-i.i - 1) c.index-items-i.result ordered less c.index-items-i.is).0

pub row_of_product-requires-clause-left : goal.row_of_product-requires-clause-left
row_of_product-requires-clause-left c =
    let same : poly c.args.a.now ≡ sum_of c.as_slice-items.result.now = poly_is c.args.a.now ∙ ap sum_of (sym c.as_slice-items.ensures) in
    let ordered : Ordered (sum_of c.as_slice-items.result.now) = subst Ordered same c.requires.left in
    let less : c.loop-i.i - 1 < length c.as_slice-items.result.now = omega (arith, c.loop-i.invariant.within, c.loop-i-test.true) in
    (ordered_at c.as_slice-items.result.now (c.loop-i.i - 1) c.index-items-i.result ordered less c.index-items-i.is).1

pub returns-in_err-row-clause-fault : goal.returns-in_err-row-clause-fault
returns-in_err-row-clause-fault c =
    let same : poly c.args.a.now ≡ sum_of c.as_slice-items.result.now = poly_is c.args.a.now ∙ ap sum_of (sym c.as_slice-items.ensures) in
    let ordered : Ordered (sum_of c.as_slice-items.result.now) = subst Ordered same c.requires.left in
    let less : c.loop-i.i - 1 < length c.as_slice-items.result.now = omega (arith, c.loop-i.invariant.within, c.loop-i-test.true) in
    passed_on c.row_of_product.result c.from_residual.result c.in_err-row.field-0.0 (λ e. ExceedsAs e (scale (out-Monomial c.index-items-i.result).coefficient (atoms (out-Monomial c.index-items-i.result).atoms) (poly c.args.b.now)))
    (λ e. ExceedsAs e (multiply (poly c.args.a.now) (poly c.args.b.now))) c.from_residual.ensures.1 c.in_err-row.ensures.fault
    (λ e h. subst (λ p. ExceedsAs e (multiply (p) (poly c.args.b.now))) (sym same)
    (row_exceeds (λ p. multiply p (poly c.args.b.now)) (λ d vs. scale d vs (poly c.args.b.now)) (multiply_adds (poly c.args.b.now) c.requires.right) e c.as_slice-items.result.now (c.loop-i.i - 1) c.index-items-i.result ordered less c.index-items-i.is h))

pub add-requires-clause-value : goal.add-requires-clause-value
add-requires-clause-value c =
    let same : poly c.args.a.now ≡ sum_of c.as_slice-items.result.now = poly_is c.args.a.now ∙ ap sum_of (sym c.as_slice-items.ensures) in
    let ordered : Ordered (sum_of c.as_slice-items.result.now) = subst Ordered same c.requires.left in
    let less : c.loop-i.i - 1 < length c.as_slice-items.result.now = omega (arith, c.loop-i.invariant.within, c.loop-i-test.true) in
    row_is_ordered (λ p. multiply p (poly c.args.b.now)) (λ d vs. scale d vs (poly c.args.b.now)) (multiply_adds (poly c.args.b.now) c.requires.right) c.as_slice-items.result.now (c.loop-i.i - 1) c.index-items-i.result c.in_ok-row.row ordered less c.index-items-i.is c.in_ok-row.ensures.ok

pub returns-in_err-add-clause-fault : goal.returns-in_err-add-clause-fault
returns-in_err-add-clause-fault c =
    let same : poly c.args.a.now ≡ sum_of c.as_slice-items.result.now = poly_is c.args.a.now ∙ ap sum_of (sym c.as_slice-items.ensures) in
    let less : c.loop-i.i - 1 < length c.as_slice-items.result.now = omega (arith, c.loop-i.invariant.within, c.loop-i-test.true) in
    let next : c.loop-i.i ≡ (c.loop-i.i - 1) + 1 = omega (arith, c.loop-i-test.true) in
    passed_on c.add.result c.from_residual-in_err-add.result c.in_err-add.field-0.0 (λ e. ExceedsAs e (sum_poly (poly c.in_ok-row.row) (total c.loop-i.total)))
    (λ e. ExceedsAs e (multiply (poly c.args.a.now) (poly c.args.b.now))) c.from_residual-in_err-add.ensures.1 c.in_err-add.ensures.fault
    (λ e h. subst (λ p. ExceedsAs e (multiply (p) (poly c.args.b.now))) (sym same)
    (total_exceeds (λ p. multiply p (poly c.args.b.now)) (λ d vs. scale d vs (poly c.args.b.now)) (multiply_adds (poly c.args.b.now) c.requires.right) e c.as_slice-items.result.now c.loop-i.total c.loop-i.i (c.loop-i.i - 1) c.index-items-i.result c.in_ok-row.row c.loop-i.invariant next less c.index-items-i.is c.in_ok-row.ensures.ok h))

pub returns-clause-ok : goal.returns-clause-ok
returns-clause-ok c =
    let same : poly c.args.a.now ≡ sum_of c.as_slice-items.result.now = poly_is c.args.a.now ∙ ap sum_of (sym c.as_slice-items.ensures) in
    let none : c.loop-i.i ≡ 0 = omega (arith, c.loop-i-test.false) in
    ok_so c.finish.result (λ r. (poly r ≡ total c.loop-i.total) × (Exceeds (poly r) → ⊥)) (λ r. (poly r ≡ (multiply (poly c.args.a.now) (poly c.args.b.now))) × (Exceeds (poly r) → ⊥))
    (λ r h. (h.0 ∙ rows_end (λ p. multiply p (poly c.args.b.now)) (λ d vs. scale d vs (poly c.args.b.now)) (multiply_adds (poly c.args.b.now) c.requires.right) c.as_slice-items.result.now c.loop-i.total c.loop-i.i c.loop-i.invariant none ∙ ap (λ p. multiply p (poly c.args.b.now)) (sym same), h.1)) c.finish.ensures.ok

pub returns-clause-fault : goal.returns-clause-fault
returns-clause-fault c =
    let same : poly c.args.a.now ≡ sum_of c.as_slice-items.result.now = poly_is c.args.a.now ∙ ap sum_of (sym c.as_slice-items.ensures) in
    let none : c.loop-i.i ≡ 0 = omega (arith, c.loop-i-test.false) in
    because_so c.finish.result (λ e. ExceedsAs e (total c.loop-i.total)) (λ e. ExceedsAs e (multiply (poly c.args.a.now) (poly c.args.b.now)))
    (λ e h. subst (ExceedsAs e) (rows_end (λ p. multiply p (poly c.args.b.now)) (λ d vs. scale d vs (poly c.args.b.now)) (multiply_adds (poly c.args.b.now) c.requires.right) c.as_slice-items.result.now c.loop-i.total c.loop-i.i c.loop-i.invariant none ∙ ap (λ p. multiply p (poly c.args.b.now)) (sym same)) h) c.finish.ensures.fault
