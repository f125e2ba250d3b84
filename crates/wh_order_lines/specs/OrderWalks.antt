-- Lines that are found for all rules, and for all pairs of a set, under a given order.
use Rattle.std.specs.Prelude.{ℕ, ◌≡◌, ◌≢◌, ◌↔◌, List, Some, All, Contains, length, map, slice_get}
use Rattle.wh_terms.specs.Rules.{RewriteRule}
use Rattle.wh_pairs.specs.PairData.{PairData, IsIncreasing}
use Rattle.wh_reduction_pairs.specs.TaskData.{TaskData}
use Rattle.wh_order_inference.specs.Inferences.{Inference, letter_of, same_trees}
use Rattle.wh_order_inference.specs.Said.{inference}
use Rattle.wh_order_node.specs.Filterings.{FilteringData}
use Rattle.wh_order_node.specs.Ordering.{IsGoodPair, HasNarrowCalls}
use Rattle.wh_order_lines.specs.Oriented.{IsWithin, OrientsStrictly, MeetsRule, MeetsPair}
use Rattle.wh_order_lines.specs.OrderLines.{IsRuleLine}
use Rattle.wh_order_lines.specs.declared.walks.PairLines.{PairLines}

module _ (T : TaskData) (D : FilteringData) where
  -- the line of the rule number n
  abbrev pub IsLineOfRule : ℕ → Inference → Type 0
  IsLineOfRule n line = (r : RewriteRule) → slice_get T.rules n ≡ Some r → IsRuleLine T.symbols T.rules D r line

  -- there is a line for each rule that is to be covered
  pub record AreRuleLines (lines : List Inference) : Type 0 where
    pub count : length lines ≡ length T.covered
    pub each : (i n : ℕ) (line : Inference) → slice_get T.covered i ≡ Some n → slice_get lines i ≡ Some line → IsLineOfRule n line

  -- there is none for the rule with this place among those that are to be covered
  abbrev pub IsFailingRule : ℕ → Type 0
  IsFailingRule i = (n : ℕ) × (r : RewriteRule) × (slice_get T.covered i ≡ Some n) × (slice_get T.rules n ≡ Some r)
      × (MeetsRule T.symbols T.rules D r → ⊥)

  -- the line orients the pair, which is dropped where some line is not that of equal trees, and then it is not that
  -- itself
  pub record IsDropped (dropped : Type 0) (p : PairData) (line : Inference) : Type 0 where
    pub narrow : HasNarrowCalls T.symbols p
    pub good : IsGoodPair T.symbols T.rules D p line
    pub within : IsWithin line
    pub strict_is : dropped ↔ OrientsStrictly T.symbols T.rules D p
    pub differ : dropped → letter_of line ≢ same_trees

  -- the line is one for the pair number n
  abbrev pub IsLineOfPair : List ℕ → ℕ → Inference → Type 0
  IsLineOfPair drop n line = (p : PairData) → slice_get T.pairs n ≡ Some p → IsDropped (Contains drop n) p line

  -- there is a line for each pair of the set, and those whose line is strict are dropped (ours)
  pub record ArePairLines (lines : List Inference) (drop : List ℕ) : Type 0 where
    pub count : length lines ≡ length T.set
    pub each : (i n : ℕ) (line : Inference) → slice_get T.set i ≡ Some n → slice_get lines i ≡ Some line → IsLineOfPair drop n line
    pub increasing : IsIncreasing drop
    pub within : All (Contains T.set) drop

  -- there is none for the pair with this place in the set
  abbrev pub IsFailingPair : ℕ → Type 0
  IsFailingPair i = (n : ℕ) × (p : PairData) × (slice_get T.set i ≡ Some n) × (slice_get T.pairs n ≡ Some p)
      × (MeetsPair T.symbols T.rules D p → ⊥)

  -- the lines of the pairs of the set, with the numbers of those whose line is strict
  abbrev pub AreLinesOfPairs : PairLines → Type 0
  AreLinesOfPairs found = ArePairLines (map inference found.lines) found.drop
