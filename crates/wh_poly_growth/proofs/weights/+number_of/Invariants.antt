-- What is counted so far and what is left are together what all is worth, up to the greatest number.
use Rattle.std.proofs.Common.{◌≡◌, ◌+◌, ◌*◌, ◌^◌, ◌<◌, drop}
use Rattle.wh_poly.specs.Erase.{poly, atoms, polys, sum_of, product_of, arguments_of}
use Rattle.wh_poly.proofs.Sizes.{size, size_of_factors, size_of_arguments}
use Rattle.wh_poly_growth.specs.Weights.{number, product, saturated, sum}
use Rattle.wh_poly_growth.proofs.weights.+number_of.Given as goal

abbrev pub decreases-number_of : goal.decreases-number_of
decreases-number_of l = 2 * size (poly l.polynomial.now)

abbrev pub decreases-product_of : goal.decreases-product_of
decreases-product_of l = 2 * size_of_factors (atoms l.factors.now)

abbrev pub decreases-value_of : goal.decreases-value_of
decreases-value_of l = 2 * size_of_arguments (polys l.arguments.now) + 1

abbrev pub decreases-sum_of : goal.decreases-sum_of
decreases-sum_of l = 2 * size_of_arguments (polys l.arguments.now)

abbrev pub invariant-number_of-loop-item : goal.invariant-number_of-loop-item
invariant-number_of-loop-item l =
    record {
      fits : l.total < 2 ^ 128;
      rest : saturated (l.total + number l.weights (sum_of (drop l.item-index l.item-items))) ≡ saturated (number l.weights (poly l.polynomial));
    }

abbrev pub invariant-product_of-loop-item : goal.invariant-product_of-loop-item
invariant-product_of-loop-item l =
    record {
      fits : l.product < 2 ^ 128;
      rest : saturated (l.product * product l.weights (product_of (drop l.item-index l.item-items))) ≡ saturated (product l.weights (atoms l.factors));
    }

abbrev pub invariant-sum_of-loop-item : goal.invariant-sum_of-loop-item
invariant-sum_of-loop-item l =
    record {
      fits : l.sum < 2 ^ 128;
      rest : saturated (l.sum + sum l.weights (arguments_of (drop l.item-index l.item-items))) ≡ saturated (sum l.weights (polys l.arguments));
    }
