use Rattle.std.proofs.Common.{◌≡◌, ℕ, ◌+◌, ◌*◌, ◌<◌, ◌≤◌, Some, slice_get, length, map, take, sum_by}
use Rattle.wh_sat_trail.specs.declared.literal.Literal.{Literal}
use Rattle.wh_pairs.specs.PairData.{pair_data}
use Rattle.wh_circuit.specs.State.{gates_of}
use Rattle.wh_poly_flat.specs.Flat.{occurrences_at}
use Rattle.wh_find_flat.specs.Numbers.{Asks}
use Rattle.wh_find_flat.specs.Ready.{PairHolds, TellsGreater}
use Rattle.wh_find_flat.proofs.formula.require_pairs.Given as goal

abbrev pub invariant-loop-number : goal.invariant-loop-number
invariant-loop-number l = record {
  asks : Asks l.fn.circuit l.circuit (λ v. (k : ℕ) → k < l.number-index
      → PairHolds l.fn.bits.sizes.items l.fn.calls.first l.fn.calls.marked.now (map pair_data l.fn.calls.pairs.now) l.fn.calls.set.now v k);
  few : length (gates_of l.circuit) + 261862 * l.number-index
      ≤ length (gates_of l.fn.circuit) + 147254 * sum_by (occurrences_at (map pair_data l.fn.calls.pairs.now)) (take l.number-index l.fn.calls.set.now);
  count : length l.greater.items ≡ l.number-index;
  each : (k : ℕ) (w : Literal) → slice_get l.greater.items k ≡ Some w
      → TellsGreater l.fn.bits.sizes.items l.fn.calls.first l.fn.calls.marked.now (map pair_data l.fn.calls.pairs.now) l.fn.calls.set.now (gates_of l.circuit) k w;
}
