use Rattle.std.proofs.Common.{ℕ, ◌+◌, ◌*◌, ◌<◌, Bool, List, false, length, get_or, take, arith}
use Rattle.wh_sat_trail.specs.declared.literal.Literal.{Literal}
use Rattle.wh_sat.specs.Solving.{literal_true}
use Rattle.wh_circuit.specs.State.{gates_of}
use Rattle.wh_circuit.specs.Values.{bit, true_count}
use Rattle.wh_circuit_sums.proofs.CountLemmas.{count_more}
use Rattle.wh_circuit_sums.proofs.CountLemmas.{counts_same}
use Rattle.wh_circuit.proofs.Growing.{grows_then}
use Rattle.wh_circuit_sums.proofs.counting.count.Goals as goal

abbrev none : Literal
none = record { variable = 0; positive = false }

pub loop-wire-preserved : goal.loop-wire-preserved
loop-wire-preserved c =
    let ls : List Literal = c.args.of.now in
    let i = c.loop-wire.wire-index in
    let within : i < length ls = omega arith in
    let so_far : (ℕ → Bool) → ℕ = λ v. true_count v (take i ls) in
    record {
      grows = grows_then (3 * i + 1) 3 (3 * (i + 1) + 1) c.args.circuit.now c.loop-wire.circuit c.counted.new.circuit c.loop-wire.invariant.grows c.counted.ensures.grows (omega arith);
      counts = counts_same (gates_of c.counted.new.circuit) c.in_ok-count.count (λ v. bit (literal_true v (get_or ls i none)) + so_far v) (λ v. true_count v (take (i + 1) ls))
          (λ v. count_more v ls i none within) (c.in_ok-count.ensures.means so_far c.loop-wire.invariant.counts);
    }
