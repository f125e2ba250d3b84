-- At the start nothing is weighed, and a part is smaller than the whole.
use Rattle.std.proofs.Common.{rules, ◌≤◌, length, ap, sym, ◌∙◌, arith}
use Rattle.wh_poly.specs.Erase.{sum_of, product_of, arguments_of}
use Rattle.wh_poly.specs.Limits.{weight, weight_of_factors, weight_of_arguments, nesting, nesting_of_factors, nesting_of_arguments}
use Rattle.wh_poly.specs.declared.polynomial.Atom.{out-Atom}
use Rattle.wh_poly.proofs.Lists.{poly_is, atoms_is, polys_is, no_arguments_left}
use Rattle.wh_poly.proofs.Sizes.{smaller_factors, smaller_arguments, smaller_poly}
use Rattle.wh_poly_limits.proofs.WeightLaws.{weighing_starts, weighing_bare}
use Rattle.wh_poly_limits.proofs.weighing.+weigh.Goals as goal

pub weigh-loop-item-init : goal.weigh-loop-item-init
weigh-loop-item-init t c = let e = poly_is c.args.p.now ∙ ap sum_of (sym c.as_slice-item-items.ensures) in
    weighing_starts _ _ _ _ c.args.budget c.args.depth (ap weight e) (ap nesting e)

pub weigh-weigh_factors-requires : goal.weigh-weigh_factors-requires
weigh-weigh_factors-requires t c =
    (omega (arith, smaller_factors c.args.p.now c.as_slice-item-items.result.now c.loop-item.item-index c.item-item.result c.as_slice-item-items.ensures c.loop-item-test.true c.item-item.is), tt)

pub weigh_factors-loop-item-init : goal.weigh_factors-loop-item-init
weigh_factors-loop-item-init t c = let e = atoms_is c.args.us.now ∙ ap product_of (sym c.as_slice-item-items.ensures) in
    weighing_starts _ _ _ _ c.args.budget c.args.depth (ap weight_of_factors e) (ap nesting_of_factors e)

pub weigh_factors-loop-item-preserved-then-is_empty : goal.weigh_factors-loop-item-preserved-then-is_empty
weigh_factors-loop-item-preserved-then-is_empty t c =
    let none : length c.as_slice.result.now ≤ 0 = search rules in
    weighing_bare _ _ c.as_slice-item-items.result.now c.loop-item.item-index c.item-item.result c.args.budget c.loop-item.left c.args.depth c.loop-item.invariant c.loop-item-test.true c.item-item.is
    (no_arguments_left (out-Atom c.item-item.result).args c.as_slice.result.now c.as_slice.ensures none) (omega (arith, c.if-left-eq0.false))

pub weigh_factors-weigh_arguments-requires : goal.weigh_factors-weigh_arguments-requires
weigh_factors-weigh_arguments-requires t c =
    (omega (arith, smaller_arguments c.args.us.now c.as_slice-item-items.result.now c.loop-item.item-index c.item-item.result c.as_slice-item-items.ensures c.loop-item-test.true c.item-item.is), tt)

pub weigh_arguments-loop-item-init : goal.weigh_arguments-loop-item-init
weigh_arguments-loop-item-init t c = let e = polys_is c.args.ps.now ∙ ap arguments_of (sym c.as_slice-item-items.ensures) in
    weighing_starts _ _ _ _ c.args.budget c.args.depth (ap weight_of_arguments e) (ap nesting_of_arguments e)

pub weigh_arguments-weigh-requires : goal.weigh_arguments-weigh-requires
weigh_arguments-weigh-requires t c =
    (omega (arith, smaller_poly c.args.ps.now c.as_slice-item-items.result.now c.loop-item.item-index c.item-item.result c.as_slice-item-items.ensures c.loop-item-test.true c.item-item.is), tt)
