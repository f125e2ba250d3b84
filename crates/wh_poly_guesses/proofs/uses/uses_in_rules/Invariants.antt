use Rattle.std.proofs.Common.{◌≡◌, ℕ, length, Some, slice_get}
use Rattle.wh_terms.specs.Rules.{RewriteRule}
use Rattle.wh_terms.specs.Erase.{rewrite_rules}
use Rattle.wh_poly_guesses.specs.Uses.{UsesAll, StandsInRule}
use Rattle.wh_poly_space.proofs.PushLemmas.{EachAt}
use Rattle.wh_poly_guesses.proofs.uses.uses_in_rules.Given as goal

abbrev pub invariant-loop-number : goal.invariant-loop-number
invariant-loop-number l = record {
  count : length l.uses.items ≡ l.number-index;
  each : EachAt (λ k u. (n : ℕ) (r : RewriteRule) → slice_get l.covered k ≡ Some n → slice_get (rewrite_rules l.rules) n ≡ Some r
      → UsesAll (λ m. StandsInRule m r) u) l.uses.items;
}
