use Rattle.std.proofs.Common.{◌≡◌, length}
use Rattle.wh_order_meeting.specs.Meeting.{AreNumbered}
use Rattle.wh_order_meeting.proofs.numbering.numbered.Given as goal

abbrev pub invariant-loop-bit : goal.invariant-loop-bit
invariant-loop-bit l = record {
  numbered : AreNumbered l.places.items l.bits.items;
  count : length l.places.items ≡ l.bit;
}
