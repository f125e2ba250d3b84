use Rattle.wh_order_meeting.proofs.MeetingLemmas.{both_joined}
use Rattle.wh_order_meeting.proofs.meeting.both.Goals as goal

pub returns : goal.returns
returns c = both_joined 1 c.args.circuit.now c.and.new.self c.in_ok-and.field-0 c.args.left c.args.right c.in_ok-and.ensures.grows c.in_ok-and.ensures.means
