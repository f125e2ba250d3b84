use Rattle.std.proofs.Common.{◌↔◌, ◌+◌, ◌*◌, drop}
use Rattle.wh_types.specs.Erase.{ty}
use Rattle.wh_poly.specs.Polynomials.{Normal, NormalFactors, NormalArguments}
use Rattle.wh_poly.specs.declared.polynomial.Atom.{out-Atom}
use Rattle.wh_poly.specs.Erase.{poly, atoms, polys, sum_of, product_of, arguments_of}
use Rattle.wh_hopoly.specs.Scopes.{scope_of}
use Rattle.wh_poly.proofs.Sizes.{size, size_of_factors, size_of_arguments}
use Rattle.wh_hopoly.proofs.normality.+normal.Given as goal

abbrev pub decreases-is_normal_in : goal.decreases-is_normal_in
decreases-is_normal_in l = 2 * size (poly l.p.now)

abbrev pub decreases-are_normal_factors : goal.decreases-are_normal_factors
decreases-are_normal_factors l = 2 * size_of_factors (atoms l.us.now)

abbrev pub decreases-is_normal_factor : goal.decreases-is_normal_factor
decreases-is_normal_factor l = 2 * size_of_arguments (polys (out-Atom l.atom.now).args) + 1

abbrev pub decreases-are_normal_arguments : goal.decreases-are_normal_arguments
decreases-are_normal_arguments l = 2 * size_of_arguments (polys l.args.now)

abbrev pub invariant-is_normal_in-loop-i : goal.invariant-is_normal_in-loop-i
invariant-is_normal_in-loop-i l = Normal (scope_of l.scope) (sum_of l.items) ↔ Normal (scope_of l.scope) (sum_of (drop l.i l.items))

abbrev pub invariant-are_normal_factors-loop-i : goal.invariant-are_normal_factors-loop-i
invariant-are_normal_factors-loop-i l = NormalFactors (scope_of l.scope) (product_of l.items) ↔ NormalFactors (scope_of l.scope) (product_of (drop l.i l.items))

abbrev pub invariant-are_normal_arguments-loop-item : goal.invariant-are_normal_arguments-loop-item
invariant-are_normal_arguments-loop-item l =
    NormalArguments (scope_of l.scope) (ty l.kind) (arguments_of l.item-items) ↔ NormalArguments (scope_of l.scope) (ty l.here) (arguments_of (drop l.item-index l.item-items))
