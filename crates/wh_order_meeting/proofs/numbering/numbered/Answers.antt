use Rattle.std.proofs.Common.{◌≡◌, [], length, arith, ap, sym, subst}
use Rattle.wh_order_meeting.specs.Meeting.{AreNumbered}
use Rattle.wh_order_meeting.proofs.MeetingLemmas.{numbered_none}
use Rattle.wh_order_meeting.proofs.numbering.numbered.Goals as goal

pub loop-bit-init : goal.loop-bit-init
loop-bit-init c =
    let places : c.new-places.result.items ≡ [] = c.new-places.ensures.items in
    let bits : c.new-bits.result.items ≡ [] = c.new-bits.ensures.items in
    record {
      numbered = subst (λ l. AreNumbered l c.new-bits.result.items) (sym places) (subst (λ l. AreNumbered [] l) (sym bits) numbered_none);
      count = ap length places;
    }

pub loop-bit-preserved : goal.loop-bit-preserved
loop-bit-preserved c = record {
  numbered = c.in_ok-put_bit.ensures.numbered c.loop-bit.invariant.numbered;
  count = omega (arith, c.in_ok-put_bit.ensures.count, c.loop-bit.invariant.count);
}
