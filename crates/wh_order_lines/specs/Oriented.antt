-- When a rule or a pair is oriented by an order, which is given by argument filters with precedences.
use Rattle.std.specs.Prelude.{◌≢◌, ◌<◌, ◌≤◌, ◌^◌, List}
use Rattle.wh_terms.specs.Typing.{Symbols}
use Rattle.wh_terms.specs.Rules.{RewriteRule}
use Rattle.wh_pairs.specs.PairData.{PairData}
use Rattle.wh_order_inference.specs.Inferences.{Inference, letter_of, same_trees, entries}
use Rattle.wh_order_inference.specs.InferenceLimits.{depth, deepest_inference}
use Rattle.wh_order_node.specs.Filterings.{FilteringData}
use Rattle.wh_order_node.specs.Ordering.{IsGoodRule, IsGoodPair, HasNarrowSides, HasNarrowCalls}

-- the inference is within the limits of a line: it nests at most 64 deep and has fewer than 2^32 entries
pub record IsWithin (i : Inference) : Type 0 where
  pub nested : depth i ≤ deepest_inference
  pub few : entries i < 2 ^ 32

module _ (S : Symbols) (rules : List RewriteRule) (D : FilteringData) where
  -- the line of a rule can be made good
  abbrev pub OrientsRule : RewriteRule → Type 0
  OrientsRule r = (i : Inference) × IsGoodRule S rules D r i × IsWithin i

  -- the line of a pair can be made good
  abbrev pub OrientsPair : PairData → Type 0
  OrientsPair p = (i : Inference) × IsGoodPair S rules D p i × IsWithin i

  -- the line of a pair can be made good without being that of equal trees
  abbrev pub OrientsStrictly : PairData → Type 0
  OrientsStrictly p = (i : Inference) × IsGoodPair S rules D p i × IsWithin i × (letter_of i ≢ same_trees)

  -- the rule, and the pair, is oriented (ours); that fails also where a side is too wide
  abbrev pub MeetsRule : RewriteRule → Type 0
  MeetsRule r = HasNarrowSides S r × OrientsRule r

  abbrev pub MeetsPair : PairData → Type 0
  MeetsPair p = HasNarrowCalls S p × OrientsPair p

  abbrev pub MeetsStrictly : PairData → Type 0
  MeetsStrictly p = HasNarrowCalls S p × OrientsStrictly p
