use Rattle.std.proofs.Common.{rules, ◌≡◌, ◌<◌, ◌++◌, [], ◌∷◌, true, sym, ◌∙◌, subst, arith}
use Rattle.wh_sat_trail.specs.Propagation.{Within}
use Rattle.wh_sat.specs.Solving.{Solves}
use Rattle.wh_circuit.specs.Values.{all_true}
use Rattle.wh_circuit.proofs.Solving.{solves_left, solves_right, solves_both, solves_one, all_true_push, both, one, front, back}
use Rattle.wh_circuit.proofs.Gating.{within_both, within_one}
use Rattle.wh_circuit.proofs.circuit.Circuit.require.Goals as goal

pub invariant_of-self-2 : goal.invariant_of-self-2
invariant_of-self-2 c =
    let old = c.args.self.now in
    let l = c.args.a in
    let is : c.push-2.new.self ≡ old.formula.clauses ++ (l ∷ []) ∷ [] = search rules in
    let req : c.push-3.new.self.items ≡ old.required.items ++ l ∷ [] = search rules in
    let low : l.variable < old.formula.variables = search rules in
    record {
      count = old.count;
      within = subst (Within old.formula.variables) (sym is) (within_both old.formula.variables old.formula.clauses ((l ∷ []) ∷ []) old.within (within_one old.formula.variables l low));
      ordered = old.ordered;
      always = old.always;
      required_hold = λ v s. let u = subst (Solves v) is s in
          subst (λ xs. all_true v xs ≡ true) (sym req) (all_true_push v old.required.items l ∙ both (old.required_hold v (solves_left v old.formula.clauses ((l ∷ []) ∷ []) u)) (one v l (solves_right v old.formula.clauses ((l ∷ []) ∷ []) u 0 (omega arith))));
      gates_hold = λ v s. old.gates_hold v (solves_left v old.formula.clauses ((l ∷ []) ∷ []) (subst (Solves v) is s));
      enough = λ v a r. let t = subst (λ xs. all_true v xs ≡ true) req r in
          subst (Solves v) (sym is) (solves_both v old.formula.clauses ((l ∷ []) ∷ []) (old.enough v a (front v old.required.items l t)) (solves_one v (l ∷ []) (back v old.required.items l t)));
    }
