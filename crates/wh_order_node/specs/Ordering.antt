-- When filters, precedences and inferences of the path order show that no rule and no pair of a set grows, and that
-- some of its pairs shrink.
use Rattle.std.specs.Prelude.{ℕ, ◌≡◌, ◌≢◌, ◌≤◌, List, Some, Bool, true, false, Contains, slice_get}
use Rattle.wh_types.specs.Limits.{greatest_size}
use Rattle.wh_terms.specs.Tree.{Tm}
use Rattle.wh_terms.specs.Measures.{size}
use Rattle.wh_terms.specs.Typing.{Symbols}
use Rattle.wh_terms.specs.Rules.{RewriteRule}
use Rattle.wh_pairs.specs.PairData.{PairData}
use Rattle.wh_reduction_pairs.specs.TaskData.{TaskData}
use Rattle.wh_reduction_pairs.specs.ReductionPair.{Evidence, Showing, IsReductionPair}
use Rattle.wh_order_inference.specs.Inferences.{Inference, letter_of, same_trees}
use Rattle.wh_order_extended.specs.ExtendedSides.{extended_side, extended_call}
use Rattle.wh_order_path.specs.Lines.{IsGoodLine, IsGoodPairLine}
use Rattle.wh_order_node.specs.Filterings.{FilteringData, filters_of, precedences_of, filtered_signature, AreFiltersFor, AreProperSymbols, AreProperMarks}

-- the inference is good for the two filtered sides of the rule: the left one is at least the right one (Kop 2012)
abbrev pub IsGoodRule : Symbols → List RewriteRule → FilteringData → RewriteRule → Inference → Type 0
IsGoodRule S rules D r i = IsGoodLine S (filtered_signature S rules D) (filters_of S D) (precedences_of S D) r i

-- the inference is good for the two filtered sides of the pair
abbrev pub IsGoodPair : Symbols → List RewriteRule → FilteringData → PairData → Inference → Type 0
IsGoodPair S rules D p i =
    IsGoodPairLine S (filtered_signature S rules D) (filters_of S D) (precedences_of S D) p.metas p.left_fun p.left p.right_fun p.right i

-- where that is asked, the left side is not only the same as the right one
abbrev pub IsStrictWhere : Bool → Inference → Type 0
IsStrictWhere false i = Unit {0}
IsStrictWhere true i = letter_of i ≢ same_trees

-- what inferences show of the two sides of a rule, and of those of a pair
abbrev pub by_inferences : Symbols → List RewriteRule → FilteringData → Showing Inference
by_inferences S rules D = record {
  rule = λ r i. IsGoodRule S rules D r i;
  pair = λ p strict i. IsGoodPair S rules D p i × IsStrictWhere strict i;
}

-- an extended side is not too wide: it has at most as many nodes as a side of a rule may have (ours)
abbrev pub IsNarrow : Tm → Type 0
IsNarrow t = size t ≤ greatest_size

-- the extended sides of a rule, and those of a pair
abbrev pub HasNarrowSides : Symbols → RewriteRule → Type 0
HasNarrowSides S r = IsNarrow (extended_side S r r.left) × IsNarrow (extended_side S r r.right)

abbrev pub HasNarrowCalls : Symbols → PairData → Type 0
HasNarrowCalls S p = IsNarrow (extended_call S p.metas p.left_fun p.left) × IsNarrow (extended_call S p.metas p.right_fun p.right)

-- no side of a rule that is to be covered, and no side of a pair of the set, is too wide
pub record AreNarrow (T : TaskData) : Type 0 where
  pub of_rules : (n : ℕ) (r : RewriteRule) → Contains T.covered n → slice_get T.rules n ≡ Some r → HasNarrowSides T.symbols r
  pub of_pairs : (n : ℕ) (p : PairData) → Contains T.set n → slice_get T.pairs n ≡ Some p → HasNarrowCalls T.symbols p

-- the conditions of a node of a path order on a set of pairs (Kop 2012, the reduction pair processor with argument
-- filters; the form is ours)
pub record IsOrdering (T : TaskData) (D : FilteringData) (E : Evidence Inference) : Type 0 where
  -- what is filtered are the system's symbols and the marked symbols of the set, in order, each by a proper filter
  pub filters : AreFiltersFor T D
  pub symbols : AreProperSymbols T.symbols D
  pub marks : AreProperMarks T.symbols T.rules D
  -- each side, with all arguments, is within the limit
  pub narrow : AreNarrow T
  -- inferences show that no rule and no pair of the set grows, and that the dropped pairs shrink
  pub lines : IsReductionPair (by_inferences T.symbols T.rules D) T E
