use Rattle.std.proofs.Common.{true, [], refl}
use Rattle.wh_circuit.specs.Values.{all_true}
use Rattle.wh_order_meeting.proofs.MeetingLemmas.{joins_grown}
use Rattle.wh_order_meeting.proofs.meeting.always.Goals as goal

pub returns : goal.returns
returns c =
    joins_grown 1 c.args.circuit.now c.and.new.self c.in_ok-and.field-0 (λ v. all_true v []) (λ v. true) c.in_ok-and.ensures.grows c.in_ok-and.ensures.means (λ v. refl)
