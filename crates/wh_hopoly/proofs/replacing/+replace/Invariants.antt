-- A call has fewer values on its way than the call that it is in.
use Rattle.std.proofs.Common.{◌+◌, ◌*◌, length}
use Rattle.wh_types.specs.Erase.{ty}
use Rattle.wh_poly.specs.Polynomials.{zero_poly}
use Rattle.wh_poly.specs.Arithmetic.{constant}
use Rattle.wh_hopoly.specs.Evaluation.{replace, replace_factors, replace_arguments, applied}
use Rattle.wh_hopoly.specs.Scopes.{scope_of}
use Rattle.wh_hopoly.specs.Replacements.{head_of, replace_factor, apply_at, Keeps}
use Rattle.wh_poly.specs.declared.polynomial.Atom.{out-Atom}
use Rattle.wh_poly.specs.Erase.{poly, atoms, polys, list}
use Rattle.wh_poly_arithmetic.specs.Growing.{grown, HasRoom}
use Rattle.wh_hopoly.proofs.ReplacingLaws.{Summing, Multiplying, Passing, Applying}
use Rattle.wh_hopoly.proofs.replacing.+replace.Given as goal

abbrev pub decreases-apply_one : goal.decreases-apply_one
decreases-apply_one l = 2 * length (apply_at (ty l.kind.now) (scope_of l.scope.now) (poly l.function.now) (poly l.argument.now)).values + 1

abbrev pub decreases-replace : goal.decreases-replace
decreases-replace l = 2 * length (replace (head_of l.replacement.now) l.replacement.now.variable (scope_of l.place.now.inner) zero_poly (poly l.p.now)).values

abbrev pub decreases-replace_factors : goal.decreases-replace_factors
decreases-replace_factors l =
    2 * length (replace_factors (head_of l.replacement.now) l.replacement.now.variable (scope_of l.place.now.inner) (constant l.coefficient) (atoms l.us.now)).values

abbrev pub decreases-multiply_by_factor : goal.decreases-multiply_by_factor
decreases-multiply_by_factor l =
    2 * length (replace_factor (head_of l.replacement.now) l.replacement.now.variable (scope_of l.place.now.inner) (out-Atom l.item.now).head (polys (out-Atom l.item.now).args)).values + 3

abbrev pub decreases-replace_factor : goal.decreases-replace_factor
decreases-replace_factor l =
    2 * length (replace_factor (head_of l.replacement.now) l.replacement.now.variable (scope_of l.place.now.inner) (out-Atom l.item.now).head (polys (out-Atom l.item.now).args)).values + 2

abbrev pub decreases-replace_arguments : goal.decreases-replace_arguments
decreases-replace_arguments l =
    2 * length (replace_arguments (head_of l.replacement.now) l.replacement.now.variable (scope_of l.place.now.inner) (ty l.kind.now) (polys l.ps.now)).values + 1

abbrev pub decreases-applied : goal.decreases-applied
decreases-applied l = 2 * length (applied (ty l.kind.now) (scope_of l.scope.now) (poly l.value) (polys l.args.now)).values

abbrev pub invariant-replace-loop-item : goal.invariant-replace-loop-item
invariant-replace-loop-item l = record {
  summing : Summing (head_of l.replacement) l.replacement.variable (scope_of l.place.inner) l.item-items l.total l.item-index;
  kept : Keeps l.raised l.replacement l.place;
}

abbrev pub invariant-replace_factors-loop-item : goal.invariant-replace_factors-loop-item
invariant-replace_factors-loop-item l = record {
  multiplying : Multiplying (head_of l.replacement) l.replacement.variable (scope_of l.place.inner) (scope_of l.place.outer) l.coefficient l.item-items (grown l.so_far) l.item-index;
  room : HasRoom l.so_far;
  kept : Keeps l.raised l.replacement l.place;
}

abbrev pub invariant-replace_arguments-loop-item : goal.invariant-replace_arguments-loop-item
invariant-replace_arguments-loop-item l =
    Passing (head_of l.replacement) l.replacement.variable (scope_of l.place.inner) (ty l.kind) l.item-items (list l.out) (ty l.here) l.item-index

abbrev pub invariant-applied-loop-item : goal.invariant-applied-loop-item
invariant-applied-loop-item l = Applying (scope_of l.scope) (ty l.kind) (poly l.fn.value) l.item-items (ty l.here) (poly l.applied_value) l.item-index
