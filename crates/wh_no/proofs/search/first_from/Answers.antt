-- The numbers increase, so the middle one tells of all on its side.
use Rattle.std.proofs.Common.{◌<◌, ◌≤◌, length, refl, sym, subst, arith}
use Rattle.std.proofs.lemmas.Option.{slice_get_read}
use Rattle.wh_no.proofs.SearchLemmas.{lower, upper}
use Rattle.wh_no.proofs.search.first_from.Goals as goal

pub loop-low-preserved-then-entries-middle : goal.loop-low-preserved-then-entries-middle
loop-low-preserved-then-entries-middle c =
    let d = c.index-entries-middle.result in
    let here = slice_get_read c.args.entries.now (length c.args.entries.now) _ d refl (omega (arith, c.loop-low-test.true, c.loop-low.invariant.1)) c.index-entries-middle.is in
    let small = subst (λ e. e.number < c.args.number) (sym c.index-entries-middle.is) c.if-entries-middle.true in
    (omega (arith, c.loop-low-test.true), c.loop-low.invariant.1, lower c.args.entries.now c.args.number _ d c.requires here small, c.loop-low.invariant.3)

pub loop-low-preserved : goal.loop-low-preserved
loop-low-preserved c =
    let d = c.index-entries-middle.result in
    let here = slice_get_read c.args.entries.now (length c.args.entries.now) _ d refl (omega (arith, c.loop-low-test.true, c.loop-low.invariant.1)) c.index-entries-middle.is in
    let large = subst (λ e. c.args.number ≤ e.number) (sym c.index-entries-middle.is) c.if-entries-middle.false in
    (omega arith, omega (arith, c.loop-low-test.true, c.loop-low.invariant.1), c.loop-low.invariant.2, upper c.args.entries.now c.args.number _ d c.requires here large)
