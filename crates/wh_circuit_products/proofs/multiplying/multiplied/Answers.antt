use Rattle.std.proofs.Common.{rules, ◌≡◌, ◌+◌, ◌*◌, ◌^◌, ◌<◌, ◌++◌, [], ◌∷◌, List, false, length, get_or, drop, arith, sym, ◌∙◌, ap, subst, length-append, length-drop}
use Rattle.wh_sat_trail.specs.declared.literal.Literal.{Literal}
use Rattle.wh_sat.specs.Solving.{literal_true}
use Rattle.wh_circuit.specs.Gates.{AreWires}
use Rattle.wh_circuit.specs.State.{gates_of}
use Rattle.wh_circuit.specs.Values.{bit, number_of}
use Rattle.wh_circuit_sums.proofs.SumLemmas.{times_all, times_more}
use Rattle.wh_circuit.proofs.Folding.{below_append, below_at, below_push, below_tail}
use Rattle.wh_circuit.proofs.Gating.{below_more}
use Rattle.wh_circuit.proofs.Growing.{agrees_before, grows_then}
use Rattle.wh_circuit_products.proofs.multiplying.multiplied.Goals as goal

abbrev none : Literal
none = record { variable = 0; positive = false }

pub loop-wire-preserved : goal.loop-wire-preserved
loop-wire-preserved c =
    let a : List Literal = c.args.a.now in
    let b : List Literal = c.args.b.now in
    let i = c.loop-wire.wire-index in
    let each = 10 * length b + 1 in
    let made : List Literal = c.loop-wire.made in
    let sum : List Literal = c.in_ok-sum.sum in
    let old = gates_of c.loop-wire.circuit in
    let new = gates_of c.with_row.new.circuit in
    let joins = c.with_row.ensures.grows.gates in
    let means = c.in_ok-sum.ensures.means in
    let before = c.loop-wire.invariant in
    let within : i < length a = omega arith in
    let wide : length sum ≡ length b + 1 = c.in_ok-sum.ensures.width in
    let low : 0 < length sum = omega (arith, wide) in
    let is : c.push.new.self ≡ made ++ get_or sum 0 none ∷ [] = search rules in
    let tail : c.in_ok-rest.rest ≡ drop 1 sum = search rules in
    record {
      grows = grows_then (i * each) each ((i + 1) * each) c.args.circuit.now c.loop-wire.circuit c.with_row.new.circuit before.grows c.with_row.ensures.grows (omega arith);
      own = subst (AreWires new) (sym is) (below_push (length new) made (get_or sum 0 none) (below_more (length old) (length new) made joins.more before.own)
          (below_at (length new) sum 0 none means.own low));
      own_rest = subst (AreWires new) (sym tail) (below_tail (length new) sum means.own);
      width = omega (arith, ap length is, length-append made (get_or sum 0 none ∷ []), before.width);
      narrow = omega (arith, ap length tail, length-drop 1 sum, wide);
      same = λ v g. ap (λ ls. number_of v ls + 2 ^ (i + 1) * (number_of v c.in_ok-rest.rest + number_of v (drop (i + 1) a) * number_of v b)) is
          ∙ ap (λ ls. number_of v (made ++ get_or sum 0 none ∷ []) + 2 ^ (i + 1) * (number_of v ls + number_of v (drop (i + 1) a) * number_of v b)) tail
          ∙ times_more v a b made c.loop-wire.rest sum i none before.width within low
          (means.is v g ∙ ap (λ ls. number_of v ls + bit (literal_true v (get_or a i none)) * number_of v b) c.as_slice.ensures) ∙ before.same v (agrees_before each old new v joins g);
    }

pub returns-clause-means : goal.returns-clause-means
returns-clause-means c =
    let a : List Literal = c.args.a.now in
    let b : List Literal = c.args.b.now in
    let gates = gates_of c.loop-wire.circuit in
    let made : List Literal = c.loop-wire.made in
    let rest : List Literal = c.loop-wire.rest in
    let last = c.loop-wire.invariant in
    let is : c.extend.new.self ≡ made ++ rest = search rules in
    record {
      own = subst (AreWires gates) (sym is) (below_append (length gates) made rest last.own last.own_rest);
      is = λ v g. ap (number_of v) is ∙ times_all v a b made rest c.loop-wire.wire-index (number_of v a * number_of v b) last.width (omega arith) (last.same v g);
    }
