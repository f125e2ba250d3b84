use Rattle.std.proofs.Common.{ℕ, ◌+◌, ◌*◌, ◌<◌, ◌≤◌, length, take, sum_by}
use Rattle.wh_terms.specs.Erase.{rewrite_rules}
use Rattle.wh_circuit.specs.State.{gates_of}
use Rattle.wh_poly_flat.specs.Flat.{rule_occurrences_at}
use Rattle.wh_find_flat.specs.Numbers.{Asks}
use Rattle.wh_find_flat.specs.Ready.{RuleHolds}
use Rattle.wh_find_flat.proofs.formula.require_rules.Given as goal

abbrev pub invariant-loop-number : goal.invariant-loop-number
invariant-loop-number l = record {
  asks : Asks l.fn.circuit l.circuit (λ v. (k : ℕ) → k < l.number-index → RuleHolds l.fn.bits.sizes.items (rewrite_rules l.fn.rules) l.fn.listed v k);
  few : length (gates_of l.circuit) + 261862 * l.number-index
      ≤ length (gates_of l.fn.circuit) + 147254 * sum_by (rule_occurrences_at (rewrite_rules l.fn.rules)) (take l.number-index l.fn.listed);
}
