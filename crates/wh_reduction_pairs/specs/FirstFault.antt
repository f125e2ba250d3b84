-- What is wrong first with lines: with those of the rules in order, then with those of the pairs of the set in order.
-- What can be wrong with a line is a parameter.
use Rattle.std.specs.Prelude.{ℕ, ◌<◌, ◌≡◌, ◌≢◌, ◌⊎◌, List, Some, length, Bool, slice_get}
use Rattle.wh_terms.specs.Rules.{RewriteRule}
use Rattle.wh_pairs.specs.PairData.{PairData}
use Rattle.wh_pairs.specs.Drops.{IsDropped, IsBadDrop}
use Rattle.wh_reduction_pairs.specs.TaskData.{TaskData}
use Rattle.wh_reduction_pairs.specs.ReductionPair.{Evidence, Showing, IsRightRule, IsRightPair}

-- what is wrong first with a line: with that of a rule, and with that of a pair, or of one that has to shrink (ours)
pub record Blaming (Line Fault : Type 0) : Type 1 where
  pub rule : RewriteRule → Line → Fault → Type 0
  pub pair : PairData → Bool → Line → Fault → Type 0

-- there are not as many lines as rules that are to be covered, or not as many as pairs of the set
abbrev pub AreBadLines : {Line : Type 0} → TaskData → Evidence Line → Type 0
AreBadLines T E = (length E.of_rules ≢ length T.covered) ⊎ (length E.of_pairs ≢ length T.set)

-- what is tested before the first line is looked at: the numbers of lines, and the list of dropped pairs
pub record AreCounted {Line : Type 0} (T : TaskData) (E : Evidence Line) : Type 0 where
  pub rule_count : length E.of_rules ≡ length T.covered
  pub pair_count : length E.of_pairs ≡ length T.set
  pub good_drop : IsBadDrop T.set E.drop → ⊥

module _ {Line Fault : Type 0} (blames : Blaming Line Fault) (T : TaskData) where
  -- f is wrong with the line at the place i, which is that of the rule number n
  abbrev pub IsRuleFault : List Line → ℕ → ℕ → Fault → Type 0
  IsRuleFault lines i n f =
      (r : RewriteRule) × (l : Line) × (slice_get T.covered i ≡ Some n) × (slice_get T.rules n ≡ Some r) × (slice_get lines i ≡ Some l)
      × blames.rule r l f

  -- f is wrong with the line at the place i, which is that of the pair number n
  abbrev pub IsPairFault : List Line → List ℕ → ℕ → ℕ → Fault → Type 0
  IsPairFault lines drop i n f =
      (p : PairData) × (l : Line) × (strict : Bool) × (slice_get T.set i ≡ Some n) × (slice_get T.pairs n ≡ Some p)
      × (slice_get lines i ≡ Some l)
      × IsDropped drop n strict
      × blames.pair p strict l f

module _ {Line Fault : Type 0} (shows : Showing Line) (blames : Blaming Line Fault) (T : TaskData) where
  -- of the lines of the rules that of this rule is the first that is not right, and this is wrong with it
  abbrev pub IsFirstRuleFault : List Line → ℕ → Fault → Type 0
  IsFirstRuleFault lines n f =
      (i : ℕ) × ((k : ℕ) → k < i → IsRightRule shows T lines k) × IsRuleFault blames T lines i n f

  -- of the lines of the pairs, that of the pair number n is the first that is not right, and f is wrong with it
  abbrev pub IsFirstPairFault : List Line → List ℕ → ℕ → Fault → Type 0
  IsFirstPairFault lines drop n f =
      (i : ℕ) × ((k : ℕ) → k < i → IsRightPair shows T lines drop k) × IsPairFault blames T lines drop i n f
