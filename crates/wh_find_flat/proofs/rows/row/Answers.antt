use Rattle.std.proofs.Common.{rules, ◌≡◌, ◌+◌, ◌*◌, ◌^◌, ◌<◌, ◌++◌, [], ◌∷◌, List, false, length, drop, arith, sym, ◌∙◌, ap, subst, length-append}
use Rattle.wh_sat_trail.specs.declared.literal.Literal.{Literal}
use Rattle.wh_sat.specs.Solving.{literal_true}
use Rattle.wh_circuit.specs.Gates.{AreWires}
use Rattle.wh_circuit.specs.State.{gates_of}
use Rattle.wh_circuit.specs.Values.{bit, number_of}
use Rattle.wh_circuit_sums.proofs.SumLemmas.{row_more}
use Rattle.wh_circuit.proofs.Folding.{below_push}
use Rattle.wh_find_flat.proofs.Growth.{agrees_early, builds_grown, builds_then, wires_later}
use Rattle.wh_find_flat.proofs.RowLemmas.{two_true}
use Rattle.wh_find_flat.specs.Numbers.{Builds}
use Rattle.wh_find_flat.proofs.rows.row.Goals as goal

abbrev none : Literal
none = record { variable = 0; positive = false }

pub loop-digit-preserved : goal.loop-digit-preserved
loop-digit-preserved c =
    let b : List Literal = c.args.number.now in
    let i = c.loop-digit.digit-index in
    let made : List Literal = c.loop-digit.made in
    let both = c.in_ok-and.field-0 in
    let old = gates_of c.loop-digit.circuit in
    let new = gates_of c.and.new.self in
    let means = c.in_ok-and.ensures.means in
    let before = c.loop-digit.invariant in
    let within : i < length b = omega arith in
    let is : c.push.new.self ≡ made ++ both ∷ [] = search rules in
    let one : Builds 1 c.loop-digit.circuit c.and.new.self = builds_grown 1 1 c.loop-digit.circuit c.and.new.self c.in_ok-and.ensures.grows (omega arith) in
    record {
      builds = builds_then i 1 (i + 1) c.args.circuit.now c.loop-digit.circuit c.and.new.self before.builds one (omega arith);
      own = subst (AreWires new) (sym is) (below_push (length new) made both (wires_later old new made one.gates before.own) means.own);
      width = omega (arith, ap length is, length-append made (both ∷ []), before.width);
      same = λ v g. ap (λ ls. number_of v ls + 2 ^ (i + 1) * (bit (literal_true v c.args.wire) * number_of v (drop (i + 1) b))) is
          ∙ row_more v b made i none both c.args.wire before.width within (means.is v g ∙ two_true v c.args.wire _) ∙ before.same v (agrees_early old new v one.gates g);
    }
