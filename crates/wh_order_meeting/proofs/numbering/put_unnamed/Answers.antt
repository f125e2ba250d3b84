use Rattle.std.proofs.Common.{None, length, arith, ap, sym, subst}
use Rattle.std.proofs.lemmas.List.{length_push}
use Rattle.wh_order_meeting.specs.Meeting.{AreNumbered}
use Rattle.wh_order_meeting.proofs.MeetingLemmas.{numbered_without}
use Rattle.wh_order_meeting.proofs.numbering.put_unnamed.Goals as goal

pub returns : goal.returns
returns c =
    let places = c.args.places.now.items in
    record {
      numbered = λ bits before. subst (λ l. AreNumbered l bits) (sym c.in_ok-push.ensures.items) (numbered_without places bits before);
      count = omega (arith, ap length c.in_ok-push.ensures.items, length_push places None);
    }
