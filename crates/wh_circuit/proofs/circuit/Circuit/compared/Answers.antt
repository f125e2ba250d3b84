use Rattle.std.proofs.Common.{◌+◌, ◌*◌, ◌<◌, List, false, length, arith, ◌∙◌}
use Rattle.wh_sat_trail.specs.declared.literal.Literal.{Literal}
use Rattle.wh_circuit.specs.State.{gates_of}
use Rattle.wh_circuit.proofs.Comparing.{compared_more}
use Rattle.wh_circuit.proofs.Growing.{agrees_before, grows_then}
use Rattle.wh_circuit.proofs.circuit.Circuit.compared.Goals as goal

abbrev none : Literal
none = record { variable = 0; positive = false }

pub loop-i-preserved : goal.loop-i-preserved
loop-i-preserved c =
    let a : List Literal = c.args.a.now in
    let b : List Literal = c.args.b.now in
    let i = c.loop-i.i in
    let in_a : i < length a = omega arith in
    let in_b : i < length b = omega arith in
    let old = gates_of c.loop-i.self in
    let new = gates_of c.compared_bit.new.self in
    let made = c.in_ok-least-2.ensures.means in
    record {
      grows = grows_then (4 * i + 1) 4 (4 * (i + 1) + 1) c.args.self.now c.loop-i.self c.compared_bit.new.self c.loop-i.invariant.grows c.compared_bit.ensures.grows (omega arith);
      own = made.own;
      same = λ v g. compared_more v a b i none c.loop-i.least c.in_ok-least-2.least in_a in_b (made.is v g)
          ∙ c.loop-i.invariant.same v (agrees_before 4 old new v c.compared_bit.ensures.grows.gates g);
    }
