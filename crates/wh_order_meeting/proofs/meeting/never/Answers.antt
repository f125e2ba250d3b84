use Rattle.std.proofs.Common.{false, [], refl}
use Rattle.wh_sat.specs.Solving.{clause_true}
use Rattle.wh_order_meeting.proofs.MeetingLemmas.{joins_grown}
use Rattle.wh_order_meeting.proofs.meeting.never.Goals as goal

pub returns : goal.returns
returns c =
    joins_grown 1 c.args.circuit.now c.or.new.self c.in_ok-or.field-0 (λ v. clause_true v []) (λ v. false) c.in_ok-or.ensures.grows c.in_ok-or.ensures.means (λ v. refl)
