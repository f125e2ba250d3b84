use Rattle.std.proofs.Common.{◌≡◌, ◌+◌, ◌++◌, [], ◌∷◌, List, true, length, length-append, arith, refl, ap, sym, subst, ◌∙◌}
use Rattle.wh_circuit.specs.declared.circuit.Gate.{Gate}
use Rattle.wh_circuit.specs.State.{gates_of}
use Rattle.wh_order_meeting.specs.Meeting.{AreInputs}
use Rattle.wh_order_meeting.proofs.MeetingLemmas.{input_more}
use Rattle.wh_order_meeting.proofs.meeting.circuit_with.Goals as goal

abbrev input_gate : Gate
input_gate = record { is_input = true; of = [] }

pub loop-preserved : goal.loop-preserved
loop-preserved c =
    let gates : List Gate = gates_of c.loop.circuit in
    let is : gates_of c.input.new.self ≡ gates ++ input_gate ∷ [] = c.in_ok-input.ensures.gates in
    record {
      inputs = subst (AreInputs (c.loop.counter + 1)) (sym is) (input_more c.loop.counter gates input_gate c.loop.invariant.count refl c.loop.invariant.inputs);
      count = omega (arith, ap length is, length-append gates (input_gate ∷ []), c.loop.invariant.count);
      required = c.input.ensures.required ∙ c.loop.invariant.required;
    }
