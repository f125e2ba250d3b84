use Rattle.std.proofs.Common.{◌≡◌, ℕ, ◌<◌, ◌≤◌, Some, slice_get}
use Rattle.wh_proof.proofs.choices.symbol_from.Given as goal

abbrev pub invariant-loop-symbol : goal.invariant-loop-symbol
invariant-loop-symbol l = (k : ℕ) → l.start ≤ k → k < l.symbol → slice_get l.names k ≡ Some l.name → ⊥
