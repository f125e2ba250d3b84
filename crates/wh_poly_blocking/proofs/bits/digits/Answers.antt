use Rattle.std.proofs.Common.{◌+◌, ◌*◌, ◌-◌, ◌++◌, ap, ◌∙◌}
use Rattle.wh_poly_blocking.specs.Bits.{digits}
use Rattle.wh_poly_blocking.specs.Sizes.{value_of}
use Rattle.wh_poly_blocking.proofs.BitLemmas.{digits_next}
use Rattle.wh_poly_blocking.proofs.bits.digits.Goals as goal

pub loop-place-preserved : goal.loop-place-preserved
loop-place-preserved c =
    let v = value_of c.args.values.now in
    let i = c.loop-place.place in
    ap (λ l. l ++ digits v (c.args.from + 2 * (i + 1)) (c.args.count - (i + 1))) c.in_ok-push.ensures.items
    ∙ digits_next v c.args.from c.args.count i c.digit.result c.loop-place.made.items c.loop-place-test.true c.digit.ensures ∙ c.loop-place.invariant
