use Rattle.std.proofs.Common.{drop}
use Rattle.wh_poly.specs.Erase.{poly, atoms, polys, sum_of, product_of, arguments_of}
use Rattle.wh_poly.specs.Limits.{weight, weight_of_factors, weight_of_arguments, nesting, nesting_of_factors, nesting_of_arguments}
use Rattle.wh_poly.proofs.Sizes.{size, size_of_factors, size_of_arguments}
use Rattle.wh_poly_limits.proofs.WeightLaws.{Weighing}
use Rattle.wh_poly_limits.proofs.weighing.+weigh.Given as goal

abbrev pub decreases-weigh : goal.decreases-weigh
decreases-weigh l = size (poly l.p.now)

abbrev pub decreases-weigh_factors : goal.decreases-weigh_factors
decreases-weigh_factors l = size_of_factors (atoms l.us.now)

abbrev pub decreases-weigh_arguments : goal.decreases-weigh_arguments
decreases-weigh_arguments l = size_of_arguments (polys l.ps.now)

abbrev pub invariant-weigh-loop-item : goal.invariant-weigh-loop-item
invariant-weigh-loop-item l = let rest = sum_of (drop l.item-index l.item-items) in
    Weighing (weight (poly l.p)) (weight rest) (nesting (poly l.p)) (nesting rest) l.budget l.left l.depth

abbrev pub invariant-weigh_factors-loop-item : goal.invariant-weigh_factors-loop-item
invariant-weigh_factors-loop-item l = let rest = product_of (drop l.item-index l.item-items) in
    Weighing (weight_of_factors (atoms l.us)) (weight_of_factors rest) (nesting_of_factors (atoms l.us)) (nesting_of_factors rest) l.budget l.left l.depth

abbrev pub invariant-weigh_arguments-loop-item : goal.invariant-weigh_arguments-loop-item
invariant-weigh_arguments-loop-item l = let rest = arguments_of (drop l.item-index l.item-items) in
    Weighing (weight_of_arguments (polys l.ps)) (weight_of_arguments rest) (nesting_of_arguments (polys l.ps)) (nesting_of_arguments rest) l.budget l.left l.depth
