use Rattle.std.proofs.Common.{◌≡◌, ℕ, ◌<◌, Bool, false, length}
use Rattle.wh_sat_trail.specs.Assignment.{AllBelow}
use Rattle.wh_sat.specs.Solving.{literal_true}
use Rattle.wh_circuit.specs.Values.{number_of}
use Rattle.wh_find_flat.proofs.compared.padded.Given as goal

abbrev pub invariant-loop : goal.invariant-loop
invariant-loop l = record {
  width : length l.made.items ≡ l.counter;
  own : (n : ℕ) → AllBelow n l.number → l.zero.variable < n → AllBelow n l.made.items;
  same : (v : ℕ → Bool) → literal_true v l.zero ≡ false → number_of v l.made.items ≡ number_of v l.number;
}
