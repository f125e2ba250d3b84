use Rattle.std.proofs.Common.{Some, length, arith, ap}
use Rattle.std.proofs.lemmas.List.{length_push}
use Rattle.wh_order_meeting.proofs.MeetingLemmas.{numbered_as}
use Rattle.wh_order_meeting.proofs.numbering.put_named.Goals as goal

pub returns : goal.returns
returns c =
    let places = c.args.places.now.items in
    let bits = c.args.bits.now.items in
    let n = c.in_ok-input.input in
    record {
      numbered = numbered_as places bits c.push.new.self.items c.push-2.new.self.items c.args.bit n c.in_ok-push.ensures.items c.in_ok-push-2.ensures.items c.requires
          (omega (arith, c.in_ok-input.ensures, c.len.ensures));
      count = omega (arith, ap length c.in_ok-push.ensures.items, length_push places (Some n));
    }
