use Rattle.std.proofs.Common.{◌≡◌, ◌+◌, ◌*◌, ◌≤◌, length, drop}
use Rattle.wh_poly.specs.Polynomials.{compare_polynomials, compare_factors, compare_arguments}
use Rattle.wh_poly.specs.declared.polynomial.Atom.{out-Atom}
use Rattle.wh_poly.specs.Erase.{poly, atoms, polys, sum_of, product_of, arguments_of}
use Rattle.wh_poly.proofs.Sizes.{size, size_of_factors, size_of_arguments}
use Rattle.wh_poly.proofs.comparing.+order.Given as goal

abbrev pub decreases-order : goal.decreases-order
decreases-order l = 2 * size (poly l.a.now)

abbrev pub decreases-order_factors : goal.decreases-order_factors
decreases-order_factors l = 2 * size_of_factors (atoms l.a.now)

abbrev pub decreases-order_factor : goal.decreases-order_factor
decreases-order_factor l = 2 * size_of_arguments (polys (out-Atom l.a.now).args) + 1

abbrev pub decreases-order_arguments : goal.decreases-order_arguments
decreases-order_arguments l = 2 * size_of_arguments (polys l.a.now)

abbrev pub invariant-order-loop-i : goal.invariant-order-loop-i
invariant-order-loop-i l = record {
  within : l.i ≤ length l.others;
  same : compare_polynomials (sum_of l.items) (sum_of l.others) ≡ compare_polynomials (sum_of (drop l.i l.items)) (sum_of (drop l.i l.others));
}

abbrev pub invariant-order_factors-loop-i : goal.invariant-order_factors-loop-i
invariant-order_factors-loop-i l = record {
  within : l.i ≤ length l.others;
  same : compare_factors (product_of l.items) (product_of l.others) ≡ compare_factors (product_of (drop l.i l.items)) (product_of (drop l.i l.others));
}

abbrev pub invariant-order_arguments-loop-i : goal.invariant-order_arguments-loop-i
invariant-order_arguments-loop-i l = record {
  within : l.i ≤ length l.others;
  same : compare_arguments (arguments_of l.items) (arguments_of l.others) ≡ compare_arguments (arguments_of (drop l.i l.items)) (arguments_of (drop l.i l.others));
}
