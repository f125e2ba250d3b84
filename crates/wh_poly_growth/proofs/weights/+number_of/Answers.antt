-- At the start nothing is counted, a part is smaller than the whole, and one more part is counted.
use Rattle.std.proofs.Common.{◌≡◌, ℕ, ◌+◌, ◌-◌, ◌*◌, ◌^◌, ap, sym, ◌∙◌, arith}
use Rattle.wh_poly.specs.Erase.{sum_of, product_of, arguments_of}
use Rattle.wh_poly.specs.declared.polynomial.Monomial.{out-Monomial}
use Rattle.wh_poly.proofs.Lists.{poly_is, atoms_is, polys_is}
use Rattle.wh_poly.proofs.Sizes.{smaller_factors, smaller_arguments, smaller_poly}
use Rattle.wh_poly.proofs.Walks.{sum_drop, product_drop, sum_ended, product_ended, arguments_ended}
use Rattle.wh_poly_growth.specs.Weights.{number, product, saturated, sum}
use Rattle.wh_poly_growth.proofs.Saturated.{added, multiplied, all_added, all_multiplied, product_right}
use Rattle.wh_poly_growth.proofs.weights.+number_of.Goals as goal

no_sum : (m n : ℕ) → m ≡ n → saturated (0 + n) ≡ saturated m
no_sum m n e = omega (arith, e)

no_product : (m n : ℕ) → m ≡ n → saturated (1 * n) ≡ saturated m
no_product m n e = omega (arith, e)

pub number_of-loop-item-init : goal.number_of-loop-item-init
number_of-loop-item-init t c =
    record {
      fits = omega arith;
      rest = no_sum _ _ (ap (number c.args.weights.now) (poly_is c.args.polynomial.now ∙ ap sum_of (sym c.as_slice-item-items.ensures)));
    }

pub number_of-product_of-product-requires : goal.number_of-product_of-product-requires
number_of-product_of-product-requires t c =
    let smaller =
    smaller_factors c.args.polynomial.now c.as_slice-item-items.result.now c.loop-item.item-index c.item-item.result c.as_slice-item-items.ensures
    c.loop-item-test.true c.item-item.is in
    (omega (arith, smaller), tt)

pub number_of-loop-item-preserved : goal.number_of-loop-item-preserved
number_of-loop-item-preserved t c =
    record {
      fits = omega (arith, c.saturating_add-total.ensures);
      rest =
          added (2 ^ 128 - 1) _ c.loop-item.total _ _ _ _ c.saturating_mul.result c.loop-item.invariant.rest
          (ap (number c.args.weights.now) (sum_drop c.as_slice-item-items.result.now c.loop-item.item-index c.item-item.result
          c.loop-item-test.true c.item-item.is))
          (c.saturating_mul.ensures ∙ ap (λ n. saturated ((out-Monomial c.item-item.result).coefficient * n)) c.product_of-product.ensures
          ∙ product_right (2 ^ 128 - 1) _ _)
          c.saturating_add-total.ensures;
    }

pub product_of-loop-item-init : goal.product_of-loop-item-init
product_of-loop-item-init t c =
    record {
      fits = omega arith;
      rest = no_product _ _ (ap (product c.args.weights.now) (atoms_is c.args.factors.now ∙ ap product_of (sym c.as_slice-item-items.ensures)));
    }

pub product_of-value_of-requires : goal.product_of-value_of-requires
product_of-value_of-requires t c =
    let smaller =
    smaller_arguments c.args.factors.now c.as_slice-item-items.result.now c.loop-item.item-index c.item-item.result c.as_slice-item-items.ensures
    c.loop-item-test.true c.item-item.is in
    (omega (arith, smaller), tt)

pub product_of-loop-item-preserved : goal.product_of-loop-item-preserved
product_of-loop-item-preserved t c =
    record {
      fits = omega (arith, c.saturating_mul-product.ensures);
      rest =
          multiplied (2 ^ 128 - 1) _ c.loop-item.product _ _ _ _ c.value_of.result c.loop-item.invariant.rest
          (ap (product c.args.weights.now) (product_drop c.as_slice-item-items.result.now c.loop-item.item-index c.item-item.result
          c.loop-item-test.true c.item-item.is))
          c.value_of.ensures c.saturating_mul-product.ensures;
    }

pub sum_of-loop-item-init : goal.sum_of-loop-item-init
sum_of-loop-item-init t c =
    record {
      fits = omega arith;
      rest = no_sum _ _ (ap (sum c.args.weights.now) (polys_is c.args.arguments.now ∙ ap arguments_of (sym c.as_slice-item-items.ensures)));
    }

pub sum_of-number_of-requires : goal.sum_of-number_of-requires
sum_of-number_of-requires t c =
    let smaller =
    smaller_poly c.args.arguments.now c.as_slice-item-items.result.now c.loop-item.item-index c.item-item.result c.as_slice-item-items.ensures
    c.loop-item-test.true c.item-item.is in
    (omega (arith, smaller), tt)

pub number_of-returns : goal.number_of-returns
number_of-returns t c =
    all_added _ _ c.loop-item.total _ (omega (arith, c.loop-item.invariant.fits)) c.loop-item.invariant.rest
    (ap (number c.args.weights.now) (sum_ended c.as_slice-item-items.result.now c.loop-item.item-index c.loop-item-test.false))

pub product_of-returns : goal.product_of-returns
product_of-returns t c =
    all_multiplied _ _ c.loop-item.product _ (omega (arith, c.loop-item.invariant.fits)) c.loop-item.invariant.rest
    (ap (product c.args.weights.now) (product_ended c.as_slice-item-items.result.now c.loop-item.item-index c.loop-item-test.false))

pub sum_of-returns : goal.sum_of-returns
sum_of-returns t c =
    all_added _ _ c.loop-item.sum _ (omega (arith, c.loop-item.invariant.fits)) c.loop-item.invariant.rest
    (ap (sum c.args.weights.now) (arguments_ended c.as_slice-item-items.result.now c.loop-item.item-index c.loop-item-test.false))
