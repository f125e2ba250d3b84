-- Each coefficient so far is at most the greatest.
use Rattle.std.proofs.Common.{◌≡◌, ap, sym, subst, ◌∙◌, arith, take}
use Rattle.std.proofs.Math.Seq.{take_all}
use Rattle.wh_poly_arithmetic.specs.Growing.{HasCoefficientsUpTo}
use Rattle.wh_poly.specs.Erase.{sum_of}
use Rattle.wh_poly.proofs.Lists.{poly_is}
use Rattle.wh_poly_arithmetic.proofs.RoomLaws.{up_to_next}
use Rattle.wh_poly_arithmetic.proofs.growing.greatest_coefficient.Goals as goal

pub loop-item-preserved : goal.loop-item-preserved
loop-item-preserved c =
    up_to_next c.as_slice-item-items.result.now c.loop-item.item-index c.item-item.result c.loop-item.greatest _ c.loop-item-test.true c.item-item.is c.loop-item.invariant (omega arith) (omega arith)

pub returns : goal.returns
returns c =
    let xs = c.as_slice-item-items.result.now in
    let all : take c.loop-item.item-index xs ≡ xs = take_all c.loop-item.item-index xs (omega (arith, c.loop-item-test.false)) in
    subst (HasCoefficientsUpTo c.loop-item.greatest) (ap sum_of (all ∙ c.as_slice-item-items.ensures) ∙ sym (poly_is c.args.p.now)) c.loop-item.invariant
