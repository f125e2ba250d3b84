-- Lines that are found for rules and pairs under a given order.
use Rattle.std.specs.Prelude.{◌≢◌, ◌↔◌, List, Option, Some, None, true, false, IsTrue, MatchOption}
use Rattle.wh_terms.specs.Typing.{Symbols}
use Rattle.wh_terms.specs.Rules.{RewriteRule}
use Rattle.wh_pairs.specs.PairData.{PairData}
use Rattle.wh_order_inference.specs.Inferences.{Inference, letter_of, same_trees}
use Rattle.wh_order_inference.specs.Said.{inference}
use Rattle.wh_order_inference.specs.declared.inference.Inference as made
use Rattle.wh_order_node.specs.Filterings.{FilteringData}
use Rattle.wh_order_node.specs.Ordering.{IsGoodRule, IsGoodPair, HasNarrowSides, HasNarrowCalls}
use Rattle.wh_order_path.specs.Verdict.{at_least, greater}
use Rattle.wh_order_trees.specs.declared.tree.Tree.{Tree}
use Rattle.wh_order_infer.specs.Lines.{IsFound}
use Rattle.wh_order_lines.specs.Oriented.{IsWithin, OrientsStrictly, MeetsRule, MeetsPair}
use Rattle.wh_order_lines.specs.declared.lines.PairLine.{PairLine}

module _ (S : Symbols) (rules : List RewriteRule) (D : FilteringData) where
  -- the inference orients the rule, no side of which is too wide
  pub record IsRuleLine (r : RewriteRule) (line : Inference) : Type 0 where
    pub narrow : HasNarrowSides S r
    pub good : IsGoodRule S rules D r line
    pub within : IsWithin line

  -- the line orients the pair, no side of which is too wide; it is strict where some line is not that of equal trees,
  -- and then it is not that itself
  pub record IsPairLine (p : PairData) (line : PairLine) : Type 0 where
    pub narrow : HasNarrowCalls S p
    pub good : IsGoodPair S rules D p (inference line.inference)
    pub within : IsWithin (inference line.inference)
    pub strict_is : IsTrue line.strict ↔ OrientsStrictly S rules D p
    pub differ : IsTrue line.strict → letter_of (inference line.inference) ≢ same_trees

  -- the inference orients the pair, no side of which is too wide; it may be that of equal trees
  pub record IsAnyPairLine (p : PairData) (line : Inference) : Type 0 where
    pub narrow : HasNarrowCalls S p
    pub good : IsGoodPair S rules D p line
    pub within : IsWithin line

  -- a line for the rule, or there is none
  abbrev pub IsRuleLineOrNone : RewriteRule → Option made.Inference → Type 0
  IsRuleLineOrNone r found = MatchOption found (MeetsRule S rules D r → ⊥) (λ line. IsRuleLine r (inference line))

  -- a line for the pair, or there is none
  abbrev pub IsPairLineOrNone : PairData → Option PairLine → Type 0
  IsPairLineOrNone p found = MatchOption found (MeetsPair S rules D p → ⊥) (IsPairLine p)

  -- any line for the pair, or there is none
  abbrev pub IsAnyPairLineOrNone : PairData → Option made.Inference → Type 0
  IsAnyPairLineOrNone p found = MatchOption found (MeetsPair S rules D p → ⊥) (λ line. IsAnyPairLine p (inference line))

-- the line of two filtered trees: it is strict where the left one is greater
abbrev pub IsLineBetween : FilteringData → Tree → Tree → Option PairLine → Type 0
IsLineBetween D u v None = IsFound D at_least u v None
IsLineBetween D u v (Some line) = elim line.strict [
  | true ↦ IsFound D greater u v (Some line.inference)
  | false ↦ IsFound D greater u v None × IsFound D at_least u v (Some line.inference)
]
