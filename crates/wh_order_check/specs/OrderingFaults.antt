-- What can be wrong with a node of a path order, and what comes first.
use Rattle.std.specs.Prelude.{ℕ, ◌<◌, ◌^◌, ◌≡◌, List, Some, true, false, slice_get}
use Rattle.wh_types.specs.Ty.{arguments, Ty}
use Rattle.wh_terms.specs.Typing.{Symbols}
use Rattle.wh_terms.specs.Rules.{RewriteRule}
use Rattle.wh_pairs.specs.Drops.{IsBadDrop}
use Rattle.wh_reduction_pairs.specs.TaskData.{TaskData}
use Rattle.wh_reduction_pairs.specs.ReductionPair.{Evidence, Showing, IsRightRule, IsRightPair}
use Rattle.wh_reduction_pairs.specs.FirstFault.{Blaming, AreBadLines, AreCounted, IsFirstRuleFault, IsFirstPairFault}
use Rattle.wh_polycheck.specs.Marks.{marked_types}
use Rattle.wh_order_inference.specs.Inferences.{Inference, entries}
use Rattle.wh_order_inference.specs.InferenceLimits.{InferenceFits}
use Rattle.wh_order_inference.specs.FilterText.{WrittenFilter}
use Rattle.wh_order_extended.specs.ExtendedSides.{extended_metas}
use Rattle.wh_order_extended.specs.Filtered.{collapsed}
use Rattle.wh_order_path.specs.Lines.{filtered_side, filtered_call}
use Rattle.wh_order_path.specs.Verdict.{line_verdict}
use Rattle.wh_order_node.specs.Filterings.{FilteringData, MarkFilter, filters_of, precedences_of, filtered_signature, IsProperAsWritten, AreProperSymbols, AreProperMarks}
use Rattle.wh_order_node.specs.Ordering.{IsGoodRule, IsGoodPair, IsStrictWhere, HasNarrowSides, HasNarrowCalls}
use Rattle.wh_order_check.specs.declared.fault.OrderingFault.{OrderingFault}
use Rattle.wh_order_check.specs.declared.fault.OrderingFault.TheVariants.{BadFilter, BadLines, BadDrop, WideRule, WidePair, BadRule, BadPair, NotStrict}

-- the filter of the symbol f is the first that is not proper
abbrev pub IsFirstImproper : Symbols → FilteringData → ℕ → Type 0
IsFirstImproper S D f =
    (a : Ty) × (w : WrittenFilter) × (slice_get S.funs f ≡ Some a) × (slice_get D.symbols f ≡ Some w)
    × (IsProperAsWritten (arguments a) w → ⊥)
    × ((g : ℕ) (b : Ty) (u : WrittenFilter) → g < f → slice_get S.funs g ≡ Some b → slice_get D.symbols g ≡ Some u
    → IsProperAsWritten (arguments b) u)

-- the filter of the marked symbol of f is the first that is not proper
abbrev pub IsFirstImproperMark : Symbols → List RewriteRule → FilteringData → ℕ → Type 0
IsFirstImproperMark S rules D f =
    (i : ℕ) × (m : MarkFilter) × (slice_get D.marks i ≡ Some m) × (m.symbol ≡ f) × (IsProperAsWritten (marked_types S rules f) m.filter → ⊥)
    × ((j : ℕ) (u : MarkFilter) → j < i → slice_get D.marks j ≡ Some u → IsProperAsWritten (marked_types S rules u.symbol) u.filter)

-- all filters are proper
pub record AreProperFilters (T : TaskData) (D : FilteringData) : Type 0 where
  pub symbols : AreProperSymbols T.symbols D
  pub marks : AreProperMarks T.symbols T.rules D

-- all that is asked before the first line is looked at
pub record IsPrepared (T : TaskData) (D : FilteringData) (E : Evidence Inference) : Type 0 where
  pub proper : AreProperFilters T D
  pub counted : AreCounted T E

-- first of all sides is asked that they are not too wide
abbrev pub narrow_lines : Symbols → Showing Inference
narrow_lines S = record { rule = λ r i. HasNarrowSides S r; pair = λ p strict i. HasNarrowCalls S p }

abbrev pub wide_lines : Symbols → Blaming Inference (Unit {0})
wide_lines S = record { rule = λ r i f. HasNarrowSides S r → ⊥; pair = λ p strict i f. HasNarrowCalls S p → ⊥ }

-- next it is asked of all inferences that they are good
abbrev pub good_lines : Symbols → List RewriteRule → FilteringData → Showing Inference
good_lines S rules D = record { rule = λ r i. IsGoodRule S rules D r i; pair = λ p strict i. IsGoodPair S rules D p i }

-- what is wrong with one is the number of the first inference in it that is bad, counted in preorder from 0
abbrev pub bad_lines : Symbols → List RewriteRule → FilteringData → Blaming Inference ℕ
bad_lines S rules D = record {
  rule = λ r i e. line_verdict (filtered_signature S rules D) (precedences_of S D) (collapsed (extended_metas S r))
      (filtered_side S (filters_of S D) r r.left) (filtered_side S (filters_of S D) r r.right) i ≡ Some e;
  pair = λ p strict i e. line_verdict (filtered_signature S rules D) (precedences_of S D) (collapsed p.metas)
      (filtered_call S (filters_of S D) p.metas p.left_fun p.left) (filtered_call S (filters_of S D) p.metas p.right_fun p.right) i
      ≡ Some e;
}

-- last it is asked of the inferences of dropped pairs that they are not that of equal trees
abbrev pub strict_lines : Showing Inference
strict_lines = record { rule = λ r i. Unit {0}; pair = λ p strict i. IsStrictWhere strict i }

abbrev pub weak_lines : Blaming Inference (Unit {0})
weak_lines = record { rule = λ r i f. ⊥; pair = λ p strict i f. IsStrictWhere strict i → ⊥ }

module _ (T : TaskData) (D : FilteringData) (E : Evidence Inference) where
  abbrev pub AreNarrowRules : Type 0
  AreNarrowRules = (k : ℕ) → IsRightRule (narrow_lines T.symbols) T E.of_rules k

  abbrev pub AreNarrowPairs : Type 0
  AreNarrowPairs = (k : ℕ) → IsRightPair (narrow_lines T.symbols) T E.of_pairs E.drop k

  abbrev pub AreGoodRules : Type 0
  AreGoodRules = (k : ℕ) → IsRightRule (good_lines T.symbols T.rules D) T E.of_rules k

  abbrev pub AreGoodPairs : Type 0
  AreGoodPairs = (k : ℕ) → IsRightPair (good_lines T.symbols T.rules D) T E.of_pairs E.drop k

  abbrev pub AreStrictPairs : Type 0
  AreStrictPairs = (k : ℕ) → IsRightPair strict_lines T E.of_pairs E.drop k

  -- the first side that is too wide is one of that rule, or of that pair
  abbrev pub IsFirstWideRule : ℕ → Type 0
  IsFirstWideRule r = IsFirstRuleFault (narrow_lines T.symbols) (wide_lines T.symbols) T E.of_rules r tt

  abbrev pub IsFirstWidePair : ℕ → Type 0
  IsFirstWidePair n = IsFirstPairFault (narrow_lines T.symbols) (wide_lines T.symbols) T E.of_pairs E.drop n tt

  -- the first bad inference stands in the line of that rule, or of that pair
  abbrev pub IsFirstBadRule : ℕ → ℕ → Type 0
  IsFirstBadRule r e = IsFirstRuleFault (good_lines T.symbols T.rules D) (bad_lines T.symbols T.rules D) T E.of_rules r e

  abbrev pub IsFirstBadPair : ℕ → ℕ → Type 0
  IsFirstBadPair n e = IsFirstPairFault (good_lines T.symbols T.rules D) (bad_lines T.symbols T.rules D) T E.of_pairs E.drop n e

  -- the first pair that is dropped, and whose line is that of equal trees
  abbrev pub IsFirstWeakPair : ℕ → Type 0
  IsFirstWeakPair n = IsFirstPairFault strict_lines weak_lines T E.of_pairs E.drop n tt

  -- the first thing wrong: a filter, the numbers of lines, or the list of dropped pairs; then sides that are too wide,
  -- first of the rules in order and then of the pairs of the set in order; then bad inferences, in that order; then a
  -- dropped pair that does not shrink (ours)
  abbrev pub IsFirstOrderingFault : OrderingFault → Type 0
  IsFirstOrderingFault (BadFilter f false) = IsFirstImproper T.symbols D f
  IsFirstOrderingFault (BadFilter f true) = AreProperSymbols T.symbols D × IsFirstImproperMark T.symbols T.rules D f
  IsFirstOrderingFault BadLines = AreProperFilters T D × AreBadLines T E
  IsFirstOrderingFault BadDrop = AreProperFilters T D × (AreBadLines T E → ⊥) × IsBadDrop T.set E.drop
  IsFirstOrderingFault (WideRule r) = IsPrepared T D E × IsFirstWideRule r
  IsFirstOrderingFault (WidePair n) = IsPrepared T D E × AreNarrowRules × IsFirstWidePair n
  IsFirstOrderingFault (BadRule r e) = IsPrepared T D E × AreNarrowRules × AreNarrowPairs × IsFirstBadRule r e
  IsFirstOrderingFault (BadPair n e) = IsPrepared T D E × AreNarrowRules × AreNarrowPairs × AreGoodRules × IsFirstBadPair n e
  IsFirstOrderingFault (NotStrict n) =
      IsPrepared T D E × AreNarrowRules × AreNarrowPairs × AreGoodRules × AreGoodPairs × IsFirstWeakPair n
