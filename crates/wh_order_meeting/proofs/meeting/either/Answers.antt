use Rattle.wh_order_meeting.proofs.MeetingLemmas.{either_joined}
use Rattle.wh_order_meeting.proofs.meeting.either.Goals as goal

pub returns : goal.returns
returns c = either_joined 1 c.args.circuit.now c.or.new.self c.in_ok-or.field-0 c.args.left c.args.right c.in_ok-or.ensures.grows c.in_ok-or.ensures.means
