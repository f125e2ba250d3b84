use Rattle.std.proofs.Common.{◌+◌, ◌<◌, ◌≤◌, drop, get_or, sym, subst, arith}
use Rattle.std.proofs.lemmas.List.{drop_more}
use Rattle.wh_order_check.proofs.PlaceLemmas.{AreWritten, written_more, written_rest}
use Rattle.wh_order_check.proofs.proper.are_increasing.Goals as goal

pub loop-place-preserved : goal.loop-place-preserved
loop-place-preserved c =
    let places = c.args.places.now in
    let k = c.loop-place.place-index in
    let n = get_or places k 0 in
    let arity = c.args.arity in
    let last = c.loop-place.last in
    let rest = drop (k + 1) places in
    let split = drop_more places k 0 c.loop-place-test.true in
    let above : last < n = omega (arith, c.if-place-last.false) in
    let within : n ≤ arity = omega (arith, c.if-arity-place.false) in (
      (λ written. c.loop-place.invariant.0 (subst (AreWritten last arity) (sym split) (written_more last arity n rest above within written))),
      (λ whole. (written_rest last arity n rest (subst (AreWritten last arity) split (c.loop-place.invariant.1 whole))).2),
    )
