use Rattle.std.proofs.Common.{arith}
use Rattle.wh_sat.specs.Solving.{literal_true}
use Rattle.wh_circuit.specs.State.{gates_of}
use Rattle.wh_circuit_sums.proofs.SumLemmas.{bits_added}
use Rattle.wh_circuit.proofs.Growing.{agrees_before, grows_then}
use Rattle.wh_circuit_sums.proofs.adding.added_bits.Goals as goal

pub returns-clause-grows : goal.returns-clause-grows
returns-clause-grows c =
    grows_then 6 3 9 c.args.circuit.now c.unlike-2.new.circuit c.either_pair.new.self
    (grows_then 3 3 6 c.args.circuit.now c.unlike.new.circuit c.unlike-2.new.circuit c.unlike.ensures.grows c.unlike-2.ensures.grows (omega arith)) c.either_pair.ensures.grows (omega arith)

pub returns-clause-means : goal.returns-clause-means
returns-clause-means c =
    let a = c.args in
    let one = gates_of c.unlike.new.circuit in
    let two = gates_of c.unlike-2.new.circuit in
    let three = gates_of c.either_pair.new.self in
    let unlike = c.in_ok-apart.ensures.means in
    let low = c.in_ok-low.ensures.means in
    let high = c.in_ok-high.ensures.means in
    record {
      own_low = omega (arith, low.own, c.either_pair.ensures.grows.gates.more);
      own_high = high.own;
      is = λ v g3. let g2 = agrees_before 3 two three v c.either_pair.ensures.grows.gates g3 in let g1 = agrees_before 3 one two v c.unlike-2.ensures.grows.gates g2 in
          bits_added (literal_true v a.a) (literal_true v a.b) (literal_true v a.c) (literal_true v c.in_ok-apart.apart) (literal_true v c.in_ok-low.low)
          (literal_true v c.in_ok-high.high) (unlike.is v g1) (low.is v g2) (high.is v g3);
    }
