use Rattle.std.proofs.Common.{rules, ◌≡◌, ℕ, ◌+◌, ◌<◌, ◌++◌, ◌∷◌, List, [], Option, Some, All, length, length-append, map, get_or, slice_get, arith, ap, sym, subst, ◌∙◌}
use Rattle.std.specs.Option.{option_map_or}
use Rattle.std.proofs.lemmas.List.Sums.{sum_by-take-le}
use Rattle.std.proofs.lemmas.Option.{none-some, slice_get-get_or}
use Rattle.wh_sat_trail.specs.declared.literal.Literal.{Literal}
use Rattle.wh_pairs.specs.PairData.{PairData, pair_data}
use Rattle.wh_circuit.specs.State.{gates_of}
use Rattle.wh_find_flat.specs.Ready.{PairHolds}
use Rattle.wh_pairs.specs.declared.pair.Pair.{Pair}
use Rattle.wh_pairs.proofs.ByPlace.{contains_at, remap}
use Rattle.wh_poly_flat.specs.Flat.{occurrences_at, pair_occurrences}
use Rattle.wh_find_flat.specs.Numbers.{Asks}
use Rattle.wh_find_flat.proofs.Growth.{later_more}
use Rattle.wh_find_flat.proofs.Loops.{asks_nothing, greater_here, greater_more, pair_asks, sum_all, sum_next}
use Rattle.wh_find_flat.proofs.formula.require_pairs.Goals as goal

pub loop-number-init : goal.loop-number-init
loop-number-init c = record {
  asks = asks_nothing c.args.circuit.now (PairHolds c.args.bits.now.sizes.items c.args.calls.now.first c.args.calls.now.marked.now (map pair_data c.args.calls.now.pairs.now) c.args.calls.now.set.now);
  few = omega arith;
  count = search rules;
  each = λ k w e. (let empty : c.new-greater.result.items ≡ [] = search rules in
      absurd (none-some w (sym (ap (λ (l : List Literal). slice_get l k) empty) ∙ e)));
}

-- the pair at a place of the set
there : (pairs : List Pair) (set : List ℕ) (i : ℕ) (pair : Pair) → All (λ n. n < length pairs) set → i < length set
    → (slice_get set i ≡ Some (get_or set i 0)) × (slice_get (map pair_data pairs) (get_or set i 0) ≡ Some (pair_data (get_or pairs (get_or set i 0) pair)))
there pairs set i pair within less =
    (slice_get-get_or set i 0 less, remap pair_data pairs (get_or set i 0) (get_or pairs (get_or set i 0) pair) (slice_get-get_or pairs (get_or set i 0) pair (within i 0 less)))

pub require_call-requires : goal.require_call-requires
require_call-requires c =
    let pairs : List Pair = c.args.calls.now.pairs.now in
    let set : List ℕ = c.args.calls.now.set.now in
    let i = c.loop-number.number-index in
    let pair : Pair = get_or pairs (get_or set i 0) c.index-calls-number.result in
    let ps = map pair_data pairs in
    let n = get_or set i 0 in
    let at = there pairs set i c.index-calls-number.result c.requires.within c.loop-number-test.true in
    let next = sum_next (occurrences_at ps) set i n at.0 in
    let own : occurrences_at ps n ≡ pair_occurrences (pair_data pair) = ap (λ (o : Option PairData). option_map_or pair_occurrences o 0) at.1 in
    let front = sum_by-take-le (occurrences_at ps) set (i + 1) in
    let few = c.loop-number.invariant.few in
    let room = c.requires.room in
    let more = later_more (gates_of c.args.circuit.now) (gates_of c.loop-number.circuit) c.loop-number.invariant.asks.gates in
    let inputs = c.requires.inputs in
    record {
      ready = c.requires.ready (pair_data pair) (n, contains_at set i n at.0, at.1);
      numbers = c.requires.numbers;
      inputs = omega (arith, inputs, more);
      room = omega (arith, next, own, front, few, room);
    }

pub loop-number-preserved : goal.loop-number-preserved
loop-number-preserved c =
    let pairs : List Pair = c.args.calls.now.pairs.now in
    let set : List ℕ = c.args.calls.now.set.now in
    let first = c.args.calls.now.first in
    let marked = c.args.calls.now.marked.now in
    let sizes = c.args.bits.now.sizes.items in
    let i = c.loop-number.number-index in
    let pair : Pair = get_or pairs (get_or set i 0) c.index-calls-number.result in
    let ps = map pair_data pairs in
    let n = get_or set i 0 in
    let at = there pairs set i c.index-calls-number.result c.requires.within c.loop-number-test.true in
    let next = sum_next (occurrences_at ps) set i n at.0 in
    let own : occurrences_at ps n ≡ pair_occurrences (pair_data pair) = ap (λ (o : Option PairData). option_map_or pair_occurrences o 0) at.1 in
    let few = c.loop-number.invariant.few in
    let f = c.in_ok-wire.ensures.few in
    let old = c.loop-number.circuit in
    let new = c.require_call.new.circuit in
    let wires : List Literal = c.loop-number.greater.items in
    let w : Literal = c.in_ok-wire.wire in
    let is : c.push.new.self.items ≡ wires ++ w ∷ [] = search rules in
    let here = greater_here (gates_of new) sizes first marked ps set i n (pair_data pair) w at.0 at.1 c.in_ok-wire.ensures.means in
    record {
      asks = pair_asks c.args.circuit.now old new sizes first marked ps set i n (pair_data pair) at.0 at.1 c.loop-number.invariant.asks c.in_ok-wire.ensures.asks;
      few = omega (arith, next, own, few, f);
      count = omega (arith, ap length is, length-append wires (w ∷ []), c.loop-number.invariant.count);
      each = λ k u e. greater_more (gates_of old) (gates_of new) sizes first marked ps set wires w i c.in_ok-wire.ensures.asks.gates c.loop-number.invariant.count
          c.loop-number.invariant.each here k u (ap (λ (l : List Literal). slice_get l k) (sym is) ∙ e);
    }

pub returns : goal.returns
returns c =
    let set : List ℕ = c.args.calls.now.set.now in
    let i = c.loop-number.number-index in
    let end : i ≡ length set = omega arith in
    let all = sum_all (occurrences_at (map pair_data c.args.calls.now.pairs.now)) set i (omega (arith, end)) in
    let few = c.loop-number.invariant.few in
    record {
      asks = subst (λ k. Asks c.args.circuit.now c.loop-number.circuit (λ v. (j : ℕ) → j < k
          → PairHolds c.args.bits.now.sizes.items c.args.calls.now.first c.args.calls.now.marked.now (map pair_data c.args.calls.now.pairs.now) set v j)) end c.loop-number.invariant.asks;
      few = omega (arith, few, all, end);
      greater = record { count = c.loop-number.invariant.count ∙ end; each = c.loop-number.invariant.each };
    }
