-- What is kept is the value, and so is what is made.
use Rattle.std.proofs.Common.{◌≡◌, sym, subst}
use Rattle.std.specs.Prelude.{Some, Option}
use Rattle.wh_poly.specs.Polynomials.{Polynomial, Ordered}
use Rattle.wh_poly.specs.Arithmetic.{multiply}
use Rattle.wh_poly.specs.Limits.{Exceeds}
use Rattle.wh_poly.specs.Excesses.{ExceedsAs}
use Rattle.wh_hopoly.specs.Evaluation.{one}
use Rattle.wh_hopoly.specs.Outcomes.{ComesTo, PassesLimit}
use Rattle.wh_poly_arithmetic.specs.Growing.{grown, HasRoom}
use Rattle.wh_hopoly.specs.Replacements.{product_with, value_at, Keeps}
use Rattle.wh_poly.specs.Erase.{poly}
use Rattle.wh_poly_arithmetic.specs.declared.growing.Growing.{Growing}
use Rattle.wh_poly.specs.declared.polynomial.Poly.{Poly}
use Rattle.wh_hopoly.specs.declared.replacing.Replacement.{Replacement}
use Rattle.wh_hopoly.specs.declared.replacing.Place.{Place}
use Rattle.wh_poly.proofs.FaultLaws.{done_so, because_so, passed_on}
use Rattle.wh_poly_arithmetic.proofs.RoomLaws.{room_is_within}
use Rattle.wh_hopoly.proofs.ReplacingLaws as laws
use Rattle.wh_hopoly.proofs.replacing.multiply_by_raised.Goals as goal

comes : (p q w : Polynomial) (g : Growing) → w ≡ q → (Exceeds w → ⊥) → (grown g ≡ multiply p w) × HasRoom g → ComesTo (product_with p (one q)) (grown g) × HasRoom g
comes p q w g e f h = (laws.product_comes (one q) p w (grown g) (subst (λ q. ComesTo (one q) w) e (laws.one_comes w f)) h.0 (room_is_within g h.1), h.1)

kept_is : (kept : Option Poly) (value : Poly) (r : Replacement) (place : Place) → kept ≡ Some value → Keeps kept r place → (poly value ≡ value_at r place) × (Exceeds (poly value) → ⊥)
kept_is kept value r place e h = subst (λ kept. Keeps kept r place) e h

pub multiply_by-requires-clause-right : goal.multiply_by-requires-clause-right
multiply_by-requires-clause-right c =
    let k = kept_is c.args.raised.now c.in-Some.value c.args.replacement.now c.args.place.now c.in-Some.is c.requires.kept in
    subst Ordered (sym k.0) c.requires.right

pub returns-in-Some-clause-ok : goal.returns-in-Some-clause-ok
returns-in-Some-clause-ok c =
    let k = kept_is c.args.raised.now c.in-Some.value c.args.replacement.now c.args.place.now c.in-Some.is c.requires.kept in
    let p = grown c.args.so_far.now in
    let q = value_at c.args.replacement.now c.args.place.now in
    let w = poly c.in-Some.value in
    let g = c.multiply_by.new.so_far in
    done_so c.multiply_by.result ((grown g ≡ multiply p w) × HasRoom g) (ComesTo (product_with p (one q)) (grown g) × HasRoom g) (comes p q w g k.0 k.1) c.multiply_by.ensures.ok

pub returns-in-Some-clause-fault : goal.returns-in-Some-clause-fault
returns-in-Some-clause-fault c =
    let k = kept_is c.args.raised.now c.in-Some.value c.args.replacement.now c.args.place.now c.in-Some.is c.requires.kept in
    let p = grown c.args.so_far.now in
    let q = value_at c.args.replacement.now c.args.place.now in
    let w = poly c.in-Some.value in
    because_so c.multiply_by.result (λ e. ExceedsAs e (multiply p w)) (PassesLimit (product_with p (one q))) (λ e h. laws.product_passes (one q) p w e k.0 h) c.multiply_by.ensures.fault

pub returns-in_err-value-clause-fault : goal.returns-in_err-value-clause-fault
returns-in_err-value-clause-fault c =
    let p = grown c.args.so_far.now in
    let q = value_at c.args.replacement.now c.args.place.now in
    passed_on c.raised_value.result c.from_residual.result c.in_err-value.field-0.0 (λ e. ExceedsAs e q) (PassesLimit (product_with p (one q)))
    c.from_residual.ensures.1 c.in_err-value.ensures.fault (λ e h. laws.factor_passes (one q) p e (laws.one_passes q e h))

pub multiply_by-requires-2-clause-right : goal.multiply_by-requires-2-clause-right
multiply_by-requires-2-clause-right c = subst Ordered (sym c.in_ok-value.ensures.ok.0) c.requires.right

pub returns-in_err-multiply_by-clause-fault : goal.returns-in_err-multiply_by-clause-fault
returns-in_err-multiply_by-clause-fault c =
    let p = grown c.args.so_far.now in
    let q = value_at c.args.replacement.now c.args.place.now in
    let w = poly c.in_ok-value.value in
    passed_on c.multiply_by-2.result c.from_residual-in_err-multiply_by.result c.in_err-multiply_by.field-0.0 (λ e. ExceedsAs e (multiply p w)) (PassesLimit (product_with p (one q)))
    c.from_residual-in_err-multiply_by.ensures.1 c.in_err-multiply_by.ensures.fault (λ e h. laws.product_passes (one q) p w e c.in_ok-value.ensures.ok.0 h)

pub returns-clause-ok : goal.returns-clause-ok
returns-clause-ok c =
    comes (grown c.args.so_far.now) (value_at c.args.replacement.now c.args.place.now) (poly c.in_ok-value.value) c.multiply_by-2.new.so_far c.in_ok-value.ensures.ok.0 c.in_ok-value.ensures.ok.1 c.in_ok-multiply_by.ensures.ok
