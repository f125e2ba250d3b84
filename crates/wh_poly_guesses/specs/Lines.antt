-- Lines of moves that are found for the rules and for the pairs of a set.
use Rattle.std.specs.Prelude.{ℕ, ◌≡◌, ◌↔◌, List, length, map, Bool, true, false, IsTrue, Some, All, Contains, slice_get}
use Rattle.wh_terms.specs.Rules.{RewriteRule}
use Rattle.wh_system.specs.SystemView.{system_data}
use Rattle.wh_system.specs.declared.system.System.{System}
use Rattle.wh_pairs.specs.PairData.{PairData, IsIncreasing, pair_data}
use Rattle.wh_pairs.specs.declared.pair.Pair.{Pair}
use Rattle.wh_reduction_pairs.specs.TaskData.{TaskData}
use Rattle.wh_poly.specs.Polynomials.{Polynomial}
use Rattle.wh_hopoly.specs.Evaluation.{Run}
use Rattle.wh_hopoly.specs.Erase.{transfers}
use Rattle.wh_hopoly.specs.Moves.{Transfer, IsStrictCover}
use Rattle.wh_hopoly.specs.declared.expression.Move.{Move}
use Rattle.wh_polycheck.specs.Readings.{ReadingsData}
use Rattle.wh_polycheck.specs.ReadingsView.{readings_data}
use Rattle.wh_polycheck.specs.declared.marks.Readings.{Readings}
use Rattle.wh_polycheck.specs.Covering.{rule_run, pair_run}
use Rattle.wh_poly_covering.specs.Lines.{IsSide}
use Rattle.wh_poly_moves.specs.Found.{AreCovering}
use Rattle.wh_poly_guesses.specs.Conditions.{IsMet}
use Rattle.wh_poly_guesses.specs.declared.lines.PairLine.{PairLine}
use Rattle.wh_poly_guesses.specs.declared.lines.PairLines.{PairLines}

-- the sides are evaluated within the limits, and the moves show that the left one is at least the right one (ours)
pub record IsLine (left right : Run Polynomial) (ms : List Transfer) : Type 0 where
  pub left_side : IsSide left left.result
  pub right_side : IsSide right right.result
  pub moves : AreCovering left.result right.result ms

-- some value of the evaluation exceeds a limit: it comes to no side
abbrev pub HasNoSide : Run Polynomial → Type 0
HasNoSide run = (p : Polynomial) → IsSide run p → ⊥

-- there are no such sides and moves
abbrev pub IsNotMet : Run Polynomial → Run Polynomial → Type 0
IsNotMet left right = IsMet left right false → ⊥

-- the moves show that the left side is greater
abbrev pub IsStrictLine : Run Polynomial → Run Polynomial → List Transfer → Type 0
IsStrictLine left right ms = IsStrictCover left.result right.result ms

-- the line of a pair, with whether it is strict
pub record IsPairLine (left right : Run Polynomial) (line : PairLine) : Type 0 where
  pub line_is : IsLine left right (transfers line.moves)
  pub strict_is : IsTrue line.strict ↔ IsStrictLine left right (transfers line.moves)

module _ (T : TaskData) (R : ReadingsData) where
  -- the line of the rule number n
  abbrev pub IsRuleLine : ℕ → List Transfer → Type 0
  IsRuleLine n ms = (r : RewriteRule) → slice_get T.rules n ≡ Some r → IsLine (rule_run R r false) (rule_run R r true) ms

  -- there is a line for each rule that is to be covered
  pub record AreRuleLines (lines : List (List Transfer)) : Type 0 where
    pub count : length lines ≡ length T.covered
    pub each : (i n : ℕ) (ms : List Transfer) → slice_get T.covered i ≡ Some n → slice_get lines i ≡ Some ms → IsRuleLine n ms

  -- there is none for the rule with this place among those that are to be covered
  abbrev pub IsFailingRule : ℕ → Type 0
  IsFailingRule i = (n : ℕ) × (r : RewriteRule) × (slice_get T.covered i ≡ Some n) × (slice_get T.rules n ≡ Some r)
      × IsNotMet (rule_run R r false) (rule_run R r true)

  -- the line of the pair number n, which is dropped where the line is strict
  abbrev pub IsDroppedLine : List ℕ → ℕ → List Transfer → Type 0
  IsDroppedLine drop n ms = (p : PairData) → slice_get T.pairs n ≡ Some p
      → IsLine (pair_run T.symbols T.rules R p false) (pair_run T.symbols T.rules R p true) ms
      × (Contains drop n ↔ IsStrictLine (pair_run T.symbols T.rules R p false) (pair_run T.symbols T.rules R p true) ms)

  -- there is a line for each pair of the set, and those whose line is strict are dropped (ours)
  pub record ArePairLines (lines : List (List Transfer)) (drop : List ℕ) : Type 0 where
    pub count : length lines ≡ length T.set
    pub each : (i n : ℕ) (ms : List Transfer) → slice_get T.set i ≡ Some n → slice_get lines i ≡ Some ms → IsDroppedLine drop n ms
    pub increasing : IsIncreasing drop
    pub within : All (Contains T.set) drop

  -- there is none for the pair with this place in the set
  abbrev pub IsFailingPair : ℕ → Type 0
  IsFailingPair i = (n : ℕ) × (p : PairData) × (slice_get T.set i ≡ Some n) × (slice_get T.pairs n ≡ Some p)
      × IsNotMet (pair_run T.symbols T.rules R p false) (pair_run T.symbols T.rules R p true)

  -- a line for each pair of the set, with the numbers of those whose line is strict
  abbrev pub AreLinesOfPairs : PairLines → Type 0
  AreLinesOfPairs found = ArePairLines (map transfers found.lines) found.drop

-- no moves cover the rule
abbrev pub IsUncoveredRule : ReadingsData → RewriteRule → Type 0
IsUncoveredRule R r = IsNotMet (rule_run R r false) (rule_run R r true)

-- the moves cover the rule
abbrev pub IsLineOfRule : ReadingsData → RewriteRule → List Move → Type 0
IsLineOfRule R r moves = IsLine (rule_run R r false) (rule_run R r true) (transfers moves)

-- the evaluation of a side of the pair
abbrev pub run_of_pair : System → Readings → Pair → Bool → Run Polynomial
run_of_pair system readings pair right =
    pair_run (system_data system).symbols (system_data system).rules (readings_data readings) (pair_data pair) right

-- no moves cover the pair
abbrev pub IsUncoveredPair : System → Readings → Pair → Type 0
IsUncoveredPair system readings pair = IsNotMet (run_of_pair system readings pair false) (run_of_pair system readings pair true)

-- some moves cover the pair strictly
abbrev pub IsStrictPair : System → Readings → Pair → Type 0
IsStrictPair system readings pair = IsMet (run_of_pair system readings pair false) (run_of_pair system readings pair true) true

-- the line of the pair, with whether it is strict
abbrev pub IsLineOfPair : System → Readings → Pair → PairLine → Type 0
IsLineOfPair system readings pair = IsPairLine (run_of_pair system readings pair false) (run_of_pair system readings pair true)
