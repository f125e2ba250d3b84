-- The value is its only monomial.
use Rattle.std.proofs.Common.{◌≡◌, ap, sym, subst, ◌∙◌, arith, length}
use Rattle.wh_poly.specs.Polynomials.{Ordered, no_arguments}
use Rattle.wh_poly.specs.Arithmetic.{multiply, atom}
use Rattle.wh_poly.specs.Excesses.{ExceedsAs}
use Rattle.wh_poly_arithmetic.specs.Growing.{grown, HasRoom}
use Rattle.wh_poly.specs.Erase.{poly}
use Rattle.wh_poly.proofs.FaultLaws.{done_so, because_so}
use Rattle.wh_poly.proofs.GrowingLaws.{only_item}
use Rattle.wh_poly_arithmetic.proofs.growing.multiply_by.Goals as goal

pub multiply_by_variable-requires-clause-left : goal.multiply_by_variable-requires-clause-left
multiply_by_variable-requires-clause-left c = c.requires.left

pub returns-in-Some-clause-ok : goal.returns-in-Some-clause-ok
returns-in-Some-clause-ok c =
    let one : length c.as_slice-items.result.now ≡ 1 = (let f = c.if-items-eq1.true in omega (arith, f)) in
    let same = only_item c.args.value.now c.as_slice-items.result.now c.index-items-0.result c.as_slice-items.ensures one c.index-items-0.is ∙ c.in-Some.ensures in
    let g = c.multiply_by_variable.new.so_far in
    let p = grown c.args.so_far.now in
    done_so c.multiply_by_variable.result ((grown g ≡ multiply p (atom c.in-Some.head no_arguments)) × HasRoom g) ((grown g ≡ multiply p (poly c.args.value.now)) × HasRoom g)
    (λ h. (h.0 ∙ ap (multiply p) (sym same), h.1)) c.multiply_by_variable.ensures.ok

pub returns-in-Some-clause-fault : goal.returns-in-Some-clause-fault
returns-in-Some-clause-fault c =
    let one : length c.as_slice-items.result.now ≡ 1 = (let f = c.if-items-eq1.true in omega (arith, f)) in
    let same = only_item c.args.value.now c.as_slice-items.result.now c.index-items-0.result c.as_slice-items.ensures one c.index-items-0.is ∙ c.in-Some.ensures in
    let p = grown c.args.so_far.now in
    because_so c.multiply_by_variable.result (λ e. ExceedsAs e (multiply p (atom c.in-Some.head no_arguments))) (λ e. ExceedsAs e (multiply p (poly c.args.value.now)))
    (λ e h. subst (λ q. ExceedsAs e (multiply p q)) (sym same) h) c.multiply_by_variable.ensures.fault

pub extend-requires-clause-right : goal.extend-requires-clause-right
extend-requires-clause-right c =
    let one : length c.as_slice-items.result.now ≡ 1 = (let f = c.if-items-eq1.true in omega (arith, f)) in
    subst Ordered (only_item c.args.value.now c.as_slice-items.result.now c.index-items-0.result c.as_slice-items.ensures one c.index-items-0.is) c.requires.right

pub returns-in-Some-room_for-clause-ok : goal.returns-in-Some-room_for-clause-ok
returns-in-Some-room_for-clause-ok c =
    let one : length c.as_slice-items.result.now ≡ 1 = (let f = c.if-items-eq1.true in omega (arith, f)) in
    let same = only_item c.args.value.now c.as_slice-items.result.now c.index-items-0.result c.as_slice-items.ensures one c.index-items-0.is in
    (c.in_ok-extend.ensures.0 ∙ ap (multiply (grown c.args.so_far.now)) (sym same), c.in_ok-extend.ensures.1)
