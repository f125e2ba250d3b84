use Rattle.std.proofs.Common.{rules, ◌≡◌, ◌<◌, ◌++◌, [], ◌∷◌, true, false, Some, ◌+◌, ◌&&◌, drop, length, List, get_or, sym, subst, arith}
use Rattle.wh_sat_trail.specs.declared.literal.Literal.{Literal}
use Rattle.wh_circuit.specs.Gates.{AreWires}
use Rattle.wh_circuit.specs.State.{gates_of}
use Rattle.wh_circuit.specs.Values.{all_true}
use Rattle.wh_circuit.proofs.Folding.{below_push, kept_more, kept_same, kept_none}
use Rattle.wh_circuit.proofs.circuit.Circuit.folded.Goals as goal
use Rattle.wh_circuit.proofs.circuit.Circuit.folded.Goals.{in-None+in_ok-push-in-None, in-Some-true}

abbrev none : Literal
none = record { variable = 0; positive = false }

pub returns-in-Some-false : goal.returns-in-Some-false
returns-in-Some-false c v a =
    let is : c.constant.result ≡ Some false = search rules in
    kept_none v c.loop-wire.kept c.args.of.now c.loop-wire.wire-index none (all_true v c.args.of.now) (omega arith) (c.constant.ensures false is v a)
    (c.loop-wire.invariant.same v a)

pub loop-wire-preserved : goal.loop-wire-preserved
loop-wire-preserved c =
    let of : List Literal = c.args.of.now in
    let i = c.loop-wire.wire-index in
    let kept : List Literal = c.loop-wire.kept in
    let within : i < length of = omega arith in
    elim c.match-constant.branch [
      | in-None+in_ok-push-in-None w ↦
          let is : c.match-constant.kept ≡ kept ++ get_or of i none ∷ [] = search rules in
          record {
            own = subst (AreWires (gates_of c.args.self.now)) (sym is) (below_push (length (gates_of c.args.self.now)) kept (get_or of i none) c.loop-wire.invariant.own (c.requires.own i none within));
            same = λ v a. subst (λ xs. (all_true v xs && all_true v (drop (i + 1) of)) ≡ all_true v of) (sym is) (kept_more v kept of i none (all_true v of) within (c.loop-wire.invariant.same v a));
          }
      | in-Some-true w ↦
          let is : c.match-constant.kept ≡ kept = w.kept-is in
          let always : c.constant.result ≡ Some true = search rules in
          record {
            own = subst (AreWires (gates_of c.args.self.now)) (sym is) c.loop-wire.invariant.own;
            same = λ v a. subst (λ xs. (all_true v xs && all_true v (drop (i + 1) of)) ≡ all_true v of) (sym is) (kept_same v kept of i none (all_true v of) within (c.constant.ensures true always v a) (c.loop-wire.invariant.same v a));
          }
    ]
