use Rattle.std.proofs.Common.{sym, subst, arith}
use Rattle.wh_order_meeting.specs.Meeting.{AreNumbered, IsBuilt}
use Rattle.wh_order_meeting.proofs.MeetingLemmas.{met_never, built_wire}
use Rattle.wh_order_meeting.proofs.meeting.meet.Goals as goal

pub solved-requires : goal.solved-requires
solved-requires c =
    let d = c.args.demand.now in
    let places = c.deref-2.result.now in
    let before = c.in_ok-circuit.circuit in
    built_wire places d before c.wire_of.new.circuit c.in-Some.wire (subst (IsBuilt places d before c.wire_of.new.circuit) c.in-Some.is c.in_ok-wire_of.ensures)

pub returns : goal.returns
returns c =
    let d = c.args.demand.now in
    let table = c.in_ok-numbering.numbering in
    let places = c.deref-2.result.now in
    let before = c.in_ok-circuit.circuit in
    let are : AreNumbered places table.bits.items = subst (λ l. AreNumbered l table.bits.items) (sym c.deref-2.ensures.value) c.in_ok-numbering.ensures in
    met_never places table.bits.items c.in_ok-inputs.inputs d before c.wire_of.new.circuit c.in-Some.wire c.solved.result are (omega (arith, c.in_ok-inputs.ensures, c.len.ensures))
    c.in_ok-circuit.ensures.inputs c.in_ok-circuit.ensures.required (subst (IsBuilt places d before c.wire_of.new.circuit) c.in-Some.is c.in_ok-wire_of.ensures) c.solved.ensures
