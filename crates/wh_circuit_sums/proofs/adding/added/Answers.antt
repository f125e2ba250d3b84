use Rattle.std.proofs.Common.{rules, ◌≡◌, ◌+◌, ◌*◌, ◌^◌, ◌++◌, [], ◌∷◌, List, false, length, get_or, drop, arith, sym, ◌∙◌, ap, subst, length-append}
use Rattle.wh_sat_trail.specs.declared.literal.Literal.{Literal}
use Rattle.wh_sat.specs.Solving.{literal_true}
use Rattle.wh_circuit.specs.Gates.{AreWires}
use Rattle.wh_circuit.specs.State.{gates_of}
use Rattle.wh_circuit.specs.Values.{bit, number_of}
use Rattle.wh_circuit_sums.proofs.SumLemmas.{sum_all, sum_more}
use Rattle.wh_circuit.proofs.Folding.{below_push}
use Rattle.wh_circuit.proofs.Gating.{below_more}
use Rattle.wh_circuit.proofs.Growing.{agrees_before, grows_then, means_later}
use Rattle.wh_circuit_sums.proofs.adding.added.Goals as goal

pub returns-in_err-push-clause-grows : goal.returns-in_err-push-clause-grows
returns-in_err-push-clause-grows c =
    grows_then (9 * c.loop-i.i + 1) 9 (9 * c.args.width + 1) c.args.circuit.now c.loop-i.circuit c.added_bits.new.circuit c.loop-i.invariant.grows c.added_bits.ensures.grows (omega arith)

pub loop-i-preserved : goal.loop-i-preserved
loop-i-preserved c =
    let a : List Literal = c.args.a.now in
    let b : List Literal = c.args.b.now in
    let i = c.loop-i.i in
    let zero = c.in_ok-zero.zero in
    let made : List Literal = c.loop-i.made in
    let digit = c.in_ok-digit.digit in
    let old = gates_of c.loop-i.circuit in
    let new = gates_of c.added_bits.new.circuit in
    let joins = c.added_bits.ensures.grows.gates in
    let adds = c.in_ok-digit.ensures.means in
    let before = c.loop-i.invariant in
    let is : c.push.new.self ≡ made ++ digit.low ∷ [] = search rules in
    record {
      grows = grows_then (9 * i + 1) 9 (9 * (i + 1) + 1) c.args.circuit.now c.loop-i.circuit c.added_bits.new.circuit before.grows c.added_bits.ensures.grows (omega arith);
      none = means_later 9 old new zero (λ v. false) joins before.none;
      own = subst (AreWires new) (sym is) (below_push (length new) made digit.low (below_more (length old) (length new) made joins.more before.own) adds.own_low);
      own_carry = adds.own_high;
      width = omega (arith, ap length is, length-append made (digit.low ∷ []), before.width);
      same = λ v g. let earlier = agrees_before 9 old new v joins g in
          let carry = bit (literal_true v c.loop-i.carry) in
          ap (λ ls. number_of v ls + 2 ^ (i + 1) * (number_of v (drop (i + 1) a) + number_of v (drop (i + 1) b) + bit (literal_true v digit.high))) is
          ∙ sum_more v a b made i zero digit.low digit.high c.loop-i.carry before.width (before.none.is v earlier)
          (adds.is v g ∙ ap (λ l. bit (literal_true v l) + bit (literal_true v c.bit_at-in-loop-i.result) + carry) c.bit_at.ensures
          ∙ ap (λ l. bit (literal_true v (get_or a i zero)) + bit (literal_true v l) + carry) c.bit_at-in-loop-i.ensures)
          ∙ before.same v earlier;
    }

pub returns-clause-means : goal.returns-clause-means
returns-clause-means c =
    let a : List Literal = c.args.a.now in
    let b : List Literal = c.args.b.now in
    let gates = gates_of c.loop-i.circuit in
    let made : List Literal = c.loop-i.made in
    let carry = c.loop-i.carry in
    let last = c.loop-i.invariant in
    let is : c.push-2.new.self ≡ made ++ carry ∷ [] = search rules in
    record {
      own = subst (AreWires gates) (sym is) (below_push (length gates) made carry last.own last.own_carry);
      is = λ v g. ap (number_of v) is ∙ sum_all v a b made c.loop-i.i (number_of v a + number_of v b) carry last.width (omega arith) (omega arith) (last.same v g);
    }
