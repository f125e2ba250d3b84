use Rattle.std.proofs.Common.{rules, ◌≡◌, ◌+◌, ◌++◌, [], ◌∷◌, false, length, List, take, sym, ◌∙◌, ap, subst, refl}
use Rattle.std.proofs.Math.Seq.{take-append_seam}
use Rattle.wh_sat_trail.specs.declared.literal.Literal.{Literal}
use Rattle.wh_sat_trail.specs.Assignment.{AllBelow}
use Rattle.wh_sat_trail.specs.Propagation.{Within}
use Rattle.wh_sat.specs.Solving.{Solves}
use Rattle.wh_circuit.specs.declared.circuit.Gate.{Gate}
use Rattle.wh_circuit_gates.specs.Clauses.{gate_clauses}
use Rattle.wh_circuit.specs.Gates.{Agrees, Extends, IsAlwaysTrue, Ordered}
use Rattle.wh_circuit.specs.Values.{all_true}
use Rattle.wh_circuit.proofs.Solving.{solves_left, solves_right, solves_both, gate_holds, holds_gate}
use Rattle.wh_circuit.proofs.Gating.{agrees_left, agrees_last, agrees_push, always_push, ordered_push, gate_extends, within_gate}
use Rattle.wh_circuit.proofs.circuit.Circuit.gate.Goals as goal

abbrev gate_of : List Literal → Gate
gate_of ls = record { is_input = false; of = ls }

pub invariant_of-self-2 : goal.invariant_of-self-2
invariant_of-self-2 c =
    let old = c.args.self.now in
    let gates = old.gates.items in
    let k = old.formula.variables in
    let ls : List Literal = c.args.of in
    let g = gate_of ls in
    let gs : c.push.new.self.items ≡ gates ++ g ∷ [] = search rules in
    let cl : c.append.new.self ≡ old.formula.clauses ++ gate_clauses k ls = search rules in
    let n : k ≡ length gates = search rules in
    record {
      count = search rules;
      within = subst (Within (k + 1)) (sym cl) (within_gate k old.formula.clauses ls old.within (subst (λ m. AllBelow m ls) (sym n) c.requires.own));
      ordered = subst Ordered (sym gs) (ordered_push gates g old.ordered c.requires.own);
      always = λ j e. subst (λ xs. IsAlwaysTrue xs j) (sym gs) (always_push gates g j (old.always j e));
      required_hold = λ v s. old.required_hold v (solves_left v old.formula.clauses (gate_clauses k ls) (subst (Solves v) cl s));
      gates_hold = λ v s. let u = subst (Solves v) cl s in
          subst (λ xs. Agrees xs v) (sym gs) (agrees_push gates g v (old.gates_hold v (solves_left v old.formula.clauses (gate_clauses k ls) u))
          (subst (λ m. v m ≡ all_true v ls) n (gate_holds v k ls (solves_right v old.formula.clauses (gate_clauses k ls) u))));
      enough = λ v a r. let b = subst (λ xs. Agrees xs v) gs a in
          subst (Solves v) (sym cl) (solves_both v old.formula.clauses (gate_clauses k ls) (old.enough v (agrees_left gates g v b) r)
          (holds_gate v k ls (subst (λ m. v m ≡ all_true v ls) (sym n) (agrees_last gates g v b refl))));
    }

pub returns-clause-grows : goal.returns-clause-grows
returns-clause-grows c =
    let old = c.args.self.now in
    let gates = old.gates.items in
    let ls : List Literal = c.args.of in
    let gs : c.push.new.self.items ≡ gates ++ gate_of ls ∷ [] = search rules in
    let cl : c.append.new.self ≡ old.formula.clauses ++ gate_clauses old.formula.variables ls = search rules in
    record {
      gates = subst (Extends 1 gates) (sym gs) (gate_extends gates (gate_of ls) refl);
      clauses = ap (take (length old.formula.clauses)) cl ∙ take-append_seam old.formula.clauses (gate_clauses old.formula.variables ls);
      required = refl;
    }

pub returns-clause-means : goal.returns-clause-means
returns-clause-means c =
    let old = c.args.self.now in
    let gates = old.gates.items in
    let ls : List Literal = c.args.of in
    let gs : c.push.new.self.items ≡ gates ++ gate_of ls ∷ [] = search rules in
    let n : old.formula.variables ≡ length gates = search rules in
    record {
      own = search rules;
      is = λ v a. subst (λ m. v m ≡ all_true v ls) (sym n) (agrees_last gates (gate_of ls) v (subst (λ xs. Agrees xs v) gs a) refl);
    }
