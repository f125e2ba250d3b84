use Rattle.std.proofs.Common.{◌≡◌, ◌⊎◌, ℕ, length, map, Some, slice_get}
use Rattle.wh_pairs.specs.PairData.{PairData, pair_data}
use Rattle.wh_poly_guesses.specs.Conditions.{StandsInPair}
use Rattle.wh_poly_guesses.specs.Uses.{UsesAll, IsMarkOf}
use Rattle.wh_poly_space.proofs.PushLemmas.{EachAt}
use Rattle.wh_poly_guesses.proofs.uses.uses_in_pairs.Given as goal

abbrev pub invariant-loop-number : goal.invariant-loop-number
invariant-loop-number l = record {
  count : length l.uses.items ≡ l.number-index;
  each : EachAt (λ i u. (n : ℕ) (p : PairData) → slice_get l.set i ≡ Some n → slice_get (map pair_data l.pairs) n ≡ Some p
      → UsesAll (λ m. StandsInPair m p ⊎ IsMarkOf l.first l.marked p m) u) l.uses.items;
}
