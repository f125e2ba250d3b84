-- Each refusal is a condition that fails; the end is that nothing is left.
use Rattle.std.proofs.Common.{◌+◌, ◌++◌, refl, ap, sym, subst, arith}
use Rattle.wh_types.specs.Erase.{ty}
use Rattle.wh_types.specs.Ty.{arguments}
use Rattle.wh_poly.specs.Polynomials.{MonomialBefore, FactorBefore, Normal}
use Rattle.wh_hopoly.specs.Scopes.{scope_of}
use Rattle.wh_poly.specs.declared.polynomial.Atom.{out-Atom}
use Rattle.wh_poly.specs.declared.polynomial.Monomial.{out-Monomial}
use Rattle.wh_poly.specs.Erase.{poly, atoms, polys, sum_of, product_of}
use Rattle.wh_poly.proofs.Sizes.{smaller_factors, smaller_arguments, smaller_poly}
use Rattle.wh_hopoly.proofs.NormalWalk.{monomial_left, factor_left, normal_ended, factors_ended, argument_left, arguments_left, sort_has_none, one_type, not_past, arrow_first, arrow_has_some, sort_needs_none}
use Rattle.wh_poly.proofs.Walks.{all_behind}
use Rattle.wh_hopoly.proofs.normality.+normal.Goals as goal
use Rattle.wh_hopoly.proofs.normality.+normal.Goals.{is_normal_in-then-item-eq0-via-then-item-eq0, is_normal_in-then-item-eq0-via-else-item-eq0+then-not-are_normal_factors, is_normal_in-then-item-eq0-via-else-item-eq0+else-not-are_normal_factors+then-not-stands_before, are_normal_factors-then-not-is_normal_factor-via-then-not-is_normal_factor, are_normal_factors-then-not-is_normal_factor-via-else-not-is_normal_factor+then-not-stands_not_after}

pub is_normal_in-are_normal_factors-requires : goal.is_normal_in-are_normal_factors-requires
is_normal_in-are_normal_factors-requires t c =
    (omega (arith, smaller_factors c.args.p.now c.as_slice-items.result.now c.loop-i.i c.index-items-i.result c.as_slice-items.ensures c.loop-i-test.true c.index-items-i.is), tt)

pub is_normal_in-returns-then-item-eq0 : goal.is_normal_in-returns-then-item-eq0
is_normal_in-returns-then-item-eq0 t c =
    let left = monomial_left (scope_of c.args.scope.now) c.args.p.now c.as_slice-items.result.now c.loop-i.i c.index-items-i.result c.as_slice-items.ensures c.loop-i.invariant c.loop-i-test.true c.index-items-i.is in
    elim c.then-item-eq0.branch [
      | is_normal_in-then-item-eq0-via-then-item-eq0 w ↦ (λ no. cc, λ n. absurd (let k = (left n).0 in omega (arith, k, w.if-item-eq0.true)))
      | is_normal_in-then-item-eq0-via-else-item-eq0+then-not-are_normal_factors w ↦ (λ no. cc, λ n. w.if-not-are_normal_factors.ensures.1 (left n).1)
      | is_normal_in-then-item-eq0-via-else-item-eq0+else-not-are_normal_factors+then-not-stands_before w ↦ (
        λ no. cc,
        λ n. w.if-not-stands_before.ensures.1
            (subst (λ xs. MonomialBefore (atoms (out-Monomial c.index-items-i.result).atoms) (sum_of xs)) (all_behind c.as_slice-items.result.now (c.loop-i.i + 1)) (left n).2),
      )
    ]

pub is_normal_in-returns : goal.is_normal_in-returns
is_normal_in-returns t c = (λ _. normal_ended (scope_of c.args.scope.now) c.args.p.now c.as_slice-items.result.now c.loop-i.i c.as_slice-items.ensures c.loop-i.invariant c.loop-i-test.false, λ _. refl)

pub are_normal_factors-is_normal_factor-requires : goal.are_normal_factors-is_normal_factor-requires
are_normal_factors-is_normal_factor-requires t c =
    (omega (arith, smaller_arguments c.args.us.now c.as_slice-items.result.now c.loop-i.i c.index-items-i.result c.as_slice-items.ensures c.loop-i-test.true c.index-items-i.is), tt)

pub are_normal_factors-returns-then-not-is_normal_factor : goal.are_normal_factors-returns-then-not-is_normal_factor
are_normal_factors-returns-then-not-is_normal_factor t c =
    let left = factor_left (scope_of c.args.scope.now) c.args.us.now c.as_slice-items.result.now c.loop-i.i c.index-items-i.result c.as_slice-items.ensures c.loop-i.invariant c.loop-i-test.true c.index-items-i.is in
    elim c.then-not-is_normal_factor.branch [
      | are_normal_factors-then-not-is_normal_factor-via-then-not-is_normal_factor w ↦ (λ no. cc, λ n. let k = left n in w.if-not-is_normal_factor.ensures.1 (k.0, k.1, k.2))
      | are_normal_factors-then-not-is_normal_factor-via-else-not-is_normal_factor+then-not-stands_not_after w ↦ (
        λ no. cc,
        λ n. w.if-not-stands_not_after.ensures.1
            (subst (λ xs. FactorBefore (out-Atom c.index-items-i.result).head (polys (out-Atom c.index-items-i.result).args) (product_of xs)) (all_behind c.as_slice-items.result.now (c.loop-i.i + 1)) (left n).3),
      )
    ]

pub are_normal_factors-returns : goal.are_normal_factors-returns
are_normal_factors-returns t c = (λ _. factors_ended (scope_of c.args.scope.now) c.args.us.now c.as_slice-items.result.now c.loop-i.i c.as_slice-items.ensures c.loop-i.invariant c.loop-i-test.false, λ _. refl)

pub is_normal_factor-returns-in-Ok : goal.is_normal_factor-returns-in-Ok
is_normal_factor-returns-in-Ok t c =
    let one = one_type (scope_of c.args.scope.now) (out-Atom c.args.atom.now).head (polys (out-Atom c.args.atom.now).args) (ty c.in-Ok.kind.now) c.in-Ok.ensures in
    (λ yes. one.1 (c.are_normal_arguments.ensures.0 yes), λ n. c.are_normal_arguments.ensures.1 (one.0 n))

pub is_normal_factor-returns-in-Err : goal.is_normal_factor-returns-in-Err
is_normal_factor-returns-in-Err t c = (λ no. cc, λ n. absurd (not_past (scope_of c.args.scope.now) (out-Atom c.args.atom.now).head c.in-Err.field-0 (polys (out-Atom c.args.atom.now).args) c.in-Err.ensures n))

pub are_normal_arguments-is_normal_in-requires : goal.are_normal_arguments-is_normal_in-requires
are_normal_arguments-is_normal_in-requires t c =
    (omega (arith, smaller_poly c.args.args.now c.as_slice-item-items.result.now c.loop-item.item-index c.item-item.result c.as_slice-item-items.ensures c.loop-item-test.true c.item-item.is), tt)

pub are_normal_arguments-returns-in-Sort : goal.are_normal_arguments-returns-in-Sort
are_normal_arguments-returns-in-Sort t c =
    let left = argument_left (scope_of c.args.scope.now) (ty c.args.kind.now) (ty c.loop-item.here.now) c.args.args.now c.as_slice-item-items.result.now c.loop-item.item-index c.item-item.result
    c.as_slice-item-items.ensures c.loop-item.invariant c.loop-item-test.true c.item-item.is in
    (λ no. cc, λ n. absurd (sort_has_none (scope_of c.args.scope.now) (ty c.loop-item.here.now) c.in-Sort.field-0 _ _ (ap ty c.in-Sort.is) (left n)))

pub are_normal_arguments-returns-then-not-is_normal_in : goal.are_normal_arguments-returns-then-not-is_normal_in
are_normal_arguments-returns-then-not-is_normal_in t c =
    let left = argument_left (scope_of c.args.scope.now) (ty c.args.kind.now) (ty c.loop-item.here.now) c.args.args.now c.as_slice-item-items.result.now c.loop-item.item-index c.item-item.result
    c.as_slice-item-items.ensures c.loop-item.invariant c.loop-item-test.true c.item-item.is in (
      λ no. cc,
      λ n. c.if-not-is_normal_in.ensures.1 (subst (λ kind. Normal (scope_of c.args.scope.now ++ arguments (ty kind)) (poly c.item-item.result)) (sym c.deref.ensures)
          (arrow_first (scope_of c.args.scope.now) (ty c.loop-item.here.now) (ty c.in-Arrow.first.value) (ty c.in-Arrow.rest.value) (poly c.item-item.result) _ (ap ty c.in-Arrow.is) (left n))),
    )

pub are_normal_arguments-returns-in-Sort-matches : goal.are_normal_arguments-returns-in-Sort-matches
are_normal_arguments-returns-in-Sort-matches t c =
    let left = arguments_left (scope_of c.args.scope.now) (ty c.args.kind.now) (ty c.loop-item.here.now) c.args.args.now c.as_slice-item-items.result.now c.loop-item.item-index
    c.as_slice-item-items.ensures c.loop-item.invariant c.loop-item-test.false in
    (λ _. left.1 (sort_needs_none (scope_of c.args.scope.now) (ty c.loop-item.here.now) c.in-Sort-matches.field-0 (ap ty c.in-Sort-matches.is)), λ _. refl)

pub are_normal_arguments-returns-in_default : goal.are_normal_arguments-returns-in_default
are_normal_arguments-returns-in_default t c =
    let left = arguments_left (scope_of c.args.scope.now) (ty c.args.kind.now) (ty c.loop-item.here.now) c.args.args.now c.as_slice-item-items.result.now c.loop-item.item-index
    c.as_slice-item-items.ensures c.loop-item.invariant c.loop-item-test.false in
    (λ no. cc, λ n. absurd (arrow_has_some (scope_of c.args.scope.now) (ty c.loop-item.here.now) (ty c.in_default.field-0.value) (ty c.in_default.field-1.value) (ap ty c.in_default.is) (left.0 n)))
