use Rattle.std.proofs.Common.{rules, ◌≡◌, ◌+◌, ◌++◌, [], ◌∷◌, true, sym, subst, arith, refl}
use Rattle.wh_circuit.specs.declared.circuit.Gate.{Gate}
use Rattle.wh_circuit.specs.Gates.{Agrees, IsAlwaysTrue, Ordered}
use Rattle.wh_circuit.proofs.Gating.{agrees_left, agrees_input, always_push, ordered_push, within_more}
use Rattle.wh_circuit.proofs.circuit.Circuit.input.Goals as goal

pub invariant_of-self-2 : goal.invariant_of-self-2
invariant_of-self-2 c =
    let old = c.args.self.now in
    let gates = old.gates.items in
    let k = old.formula.variables in
    let g : Gate = record { is_input = true; of = [] } in
    let gs : c.push.new.self.items ≡ gates ++ g ∷ [] = search rules in
    record {
      count = search rules;
      within = within_more k (k + 1) old.formula.clauses (omega arith) old.within;
      ordered = subst Ordered (sym gs) (ordered_push gates g old.ordered (λ i d w. absurd (omega (arith, w))));
      always = λ j e. subst (λ xs. IsAlwaysTrue xs j) (sym gs) (always_push gates g j (old.always j e));
      required_hold = old.required_hold;
      gates_hold = λ v s. subst (λ xs. Agrees xs v) (sym gs) (agrees_input gates g v refl (old.gates_hold v s));
      enough = λ v a r. old.enough v (agrees_left gates g v (subst (λ xs. Agrees xs v) gs a)) r;
    }
