use Rattle.std.proofs.Common.{Some, ◌+◌, arith}
use Rattle.wh_poly_ranges.proofs.Spans.{halves}
use Rattle.wh_poly_ranges.proofs.Lists.{is_written}
use Rattle.wh_poly_ranges.specs.Bounds.{lists_of}
use Rattle.wh_poly_ranges.specs.declared.bounds.Span.{Span}
use Rattle.wh_poly_ranges.specs.declared.bounds.End.TheVariants.{High, Low}
use Rattle.wh_poly_ranges.proofs.search.split.Goals as goal

pub returns : goal.returns
returns c = λ t strict all.
    let ranges = c.args.ranges.now in
    let n = c.args.at.number in
    let j = c.args.at.place in
    let least = c.at-least.result in
    let below : Span = record { low = c.in_ok-below.below.low; high = c.write-2.new.lists; cut = Some (record { number = c.args.at.number; end = High }) } in
    let above : Span = record { low = c.write.new.lists; high = c.in_ok-above.above.high; cut = Some (record { number = c.args.at.number; end = Low }) } in
    halves t strict n j least (least + 1) ranges c.args.spans.now.items c.push.new.self.items c.push-2.new.self.items above below
    c.in_ok-push.ensures.items c.in_ok-push-2.ensures.items c.in_ok-above.ensures.high c.in_ok-below.ensures.low
    (is_written n j least (lists_of ranges.high) _ _ c.in_ok-below.ensures.high c.write-2.ensures)
    (is_written n j (least + 1) (lists_of ranges.low) _ _ c.in_ok-above.ensures.low c.write.ensures)
    c.at-least.ensures (omega arith) (omega (arith, c.if-least-most.false, c.at-least.ensures, c.at-most.ensures)) all
