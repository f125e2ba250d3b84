-- The last monomial is the one that is compared.
use Rattle.std.proofs.Common.{◌≡◌, ◌+◌, ◌-◌, ◌≤◌, ap, sym, subst, ◌∙◌, arith, length}
use Rattle.wh_poly.specs.Polynomials.{MonomialBefore}
use Rattle.wh_poly.specs.Erase.{poly, atoms, sum_of}
use Rattle.wh_poly.specs.declared.polynomial.Monomial.{out-Monomial}
use Rattle.wh_poly.proofs.Lists.{poly_is}
use Rattle.wh_poly_arithmetic.proofs.MergeWalk as walk
use Rattle.wh_poly_arithmetic.proofs.sums.ends_before.Goals as goal

pub returns-then-count-eq0 : goal.returns-then-count-eq0
returns-then-count-eq0 c _ =
    let none : length c.as_slice-items.result.now ≤ 0 = (let z = c.if-count-eq0.true in omega (arith, z)) in
    walk.none_ends_before c.args.a.now c.as_slice-items.result.now (poly c.args.b.now) c.as_slice-items.ensures none

pub returns : goal.returns
returns c holds =
    let xs = c.as_slice-items.result.now in
    let some : (length xs - 1) + 1 ≡ length xs = (let z = c.if-count-eq0.false in omega (arith, z)) in
    walk.ends_before c.args.a.now xs (length xs - 1) c.index-items-count.result (poly c.args.b.now) c.as_slice-items.ensures some c.index-items-count.is
    (subst (MonomialBefore (atoms (out-Monomial c.index-items-count.result).atoms)) (ap sum_of c.as_slice.ensures ∙ sym (poly_is c.args.b.now)) (c.stands_before.ensures.0 holds))
