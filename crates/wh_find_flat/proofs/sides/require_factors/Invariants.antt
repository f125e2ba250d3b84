use Rattle.std.proofs.Common.{ℕ, ◌+◌, ◌-◌, ◌*◌, ◌<◌, ◌≤◌, length}
use Rattle.wh_terms.specs.Erase.{tm}
use Rattle.wh_circuit.specs.State.{gates_of}
use Rattle.wh_poly_flat.specs.Flat.{occurrences}
use Rattle.wh_poly_flat.specs.Worth.{factor_of}
use Rattle.wh_find_flat.specs.Lists.{lists_for}
use Rattle.wh_find_flat.specs.Plain.{standing}
use Rattle.wh_find_flat.specs.Numbers.{Asks}
use Rattle.wh_find_flat.proofs.sides.require_factors.Given as goal

abbrev pub invariant-loop-meta : goal.invariant-loop-meta
invariant-loop-meta l = record {
  asks : Asks l.fn.circuit l.circuit (λ v. (z : ℕ) → z < l.meta
      → factor_of (lists_for l.fn.bits.sizes.items v) z (tm l.fn.right) ≤ factor_of (lists_for l.fn.bits.sizes.items v) z (tm l.fn.left));
  few : length (gates_of l.circuit)
      ≤ length (gates_of l.fn.circuit) + standing l.meta (tm l.fn.right) * (2414 * (occurrences (tm l.fn.left) + occurrences (tm l.fn.right)) - 4300);
}
