-- The measures by the nodes of a termination proof, kind by kind.
use Rattle.std.specs.Prelude.{ℕ, ◌≡◌, List, [], ◌∷◌, ◌++◌, length}
use Rattle.wh_terms.specs.Typing.{Symbols}
use Rattle.wh_terms.specs.Rules.{RewriteRule}
use Rattle.wh_pairs.specs.PairData.{PairData}
use Rattle.wh_pairs.specs.Sets.{IsSetOf, IsKept}
use Rattle.wh_subterm.specs.Projections.{Chosen}
use Rattle.wh_reduction_pairs.specs.TaskData.{numbers_from}
use Rattle.wh_reduction_pairs.specs.ReductionPair.{Evidence}
use Rattle.wh_hopoly.specs.Moves.{Transfer}
use Rattle.wh_polycheck.specs.Readings.{ReadingsData}
use Rattle.wh_proof.specs.Nodes.{Node, done, alone, blocks, subterm, poly, order, AreSetsOf, Leaves}
use Rattle.wh_proof.specs.Proves.{Proves}
use Rattle.wh_proof_calls.specs.MarkedCalls.{MarkedCall}
use Rattle.wh_law_projection.specs.LongestSequences.{IsBoundedCall}
use Rattle.wh_law_measures.specs.Measures.{Measure, Measures, IsAloneMeasure, IsSubtermMeasure, IsBlocksMeasure, IsPolyMeasure, IsListedMeasure}

-- a node of which a measure is told here: any but one of a path order
abbrev pub IsCounted : Node → Type 0
IsCounted (order D E) = ⊥
IsCounted _ = Unit {0}

-- `AreMeasures S rules pairs sets nodes fs`: the nodes, in preorder, give each of the sets its measure, by the kind of
-- the node that proves the set and by the measures of what that node leaves (Kop 2012; the form is ours)
pub data AreMeasures (S : Symbols) (rules : List RewriteRule) (pairs : List PairData)
    : List (List ℕ) → List Node → List (Measure S rules) → Type 0 where
  no_measures : AreMeasures S rules pairs [] [] []
  -- a set without pairs: the empty list
  of_done : {sets : List (List ℕ)} {nodes : List Node} {fs : List (Measure S rules)} {f : Measure S rules}
      → ((c : MarkedCall) (good : IsBoundedCall S rules c) → f c good ≡ []) → AreMeasures S rules pairs sets nodes fs
      → AreMeasures S rules pairs ([] ∷ sets) (done ∷ nodes) (f ∷ fs)
  of_alone : {a : ℕ} {sets : List (List ℕ)} {nodes : List Node} {fs : List (Measure S rules)} {f : Measure S rules}
      → IsAloneMeasure S rules pairs a f → AreMeasures S rules pairs sets nodes fs
      → AreMeasures S rules pairs ((a ∷ []) ∷ sets) (alone ∷ nodes) (f ∷ fs)
  of_blocks : {set : List ℕ} {parts left sets : List (List ℕ)} {nodes : List Node} (children : List (Measure S rules))
      {fs : List (Measure S rules)} {f : Measure S rules} → AreSetsOf parts left → length children ≡ length parts
      → IsBlocksMeasure S rules pairs parts children f → AreMeasures S rules pairs (left ++ sets) nodes (children ++ fs)
      → AreMeasures S rules pairs (set ∷ sets) (blocks parts ∷ nodes) (f ∷ fs)
  of_subterm : {set drop rest : List ℕ} {args : List Chosen} {sets : List (List ℕ)} {nodes : List Node}
      {fs : List (Measure S rules)} {child f : Measure S rules} → IsSetOf (IsKept set drop) rest
      → IsSubtermMeasure S rules args child f → AreMeasures S rules pairs (rest ∷ sets) nodes (child ∷ fs)
      → AreMeasures S rules pairs (set ∷ sets) (subterm args drop ∷ nodes) (f ∷ fs)
  of_poly : {set covered rest : List ℕ} {R : ReadingsData} {E : Evidence (List Transfer)} {sets : List (List ℕ)}
      {nodes : List Node} {fs : List (Measure S rules)} {child f : Measure S rules} → IsSetOf (IsKept set E.drop) rest
      → covered ≡ numbers_from 0 (length rules) → IsPolyMeasure S rules R child f
      → AreMeasures S rules pairs (rest ∷ sets) nodes (child ∷ fs)
      → AreMeasures S rules pairs (set ∷ sets) (poly covered R E ∷ nodes) (f ∷ fs)
  of_listed : {set covered rest : List ℕ} {R : ReadingsData} {E : Evidence (List Transfer)} {sets : List (List ℕ)}
      {nodes : List Node} {fs : List (Measure S rules)} {child f : Measure S rules} → IsSetOf (IsKept set E.drop) rest
      → (covered ≡ numbers_from 0 (length rules) → ⊥) → IsListedMeasure S rules covered R child f
      → AreMeasures S rules pairs (rest ∷ sets) nodes (child ∷ fs)
      → AreMeasures S rules pairs (set ∷ sets) (poly covered R E ∷ nodes) (f ∷ fs)

-- `AreLeft S rules pairs sets before more`: where the sets are to be proved, the nodes `before`, in preorder, leave the
-- sets `more` to the nodes that come after (ours)
pub data AreLeft (S : Symbols) (rules : List RewriteRule) (pairs : List PairData) : List (List ℕ) → List Node → List (List ℕ) → Type 0 where
  none_before : {sets : List (List ℕ)} → AreLeft S rules pairs sets [] sets
  one_before : {set : List ℕ} {left sets more : List (List ℕ)} {node : Node} {nodes : List Node} → Leaves S rules pairs set node left
      → AreLeft S rules pairs (left ++ sets) nodes more → AreLeft S rules pairs (set ∷ sets) (node ∷ nodes) more

-- A node of a proof of the set `all` has a measure: its set is the first one that the nodes before leave, no step
-- raises the measure and each pair of the node's set lowers it, and it is what the node's kind says, from the measures
-- by the nodes below.
pub record HasMeasure (S : Symbols) (rules : List RewriteRule) (pairs : List PairData) (all : List ℕ) (before : List Node) (node : Node)
    (after : List Node) : Type 0 where
  pub set : List ℕ
  pub further : List (List ℕ)
  pub left : AreLeft S rules pairs (all ∷ []) before (set ∷ further)
  pub proves : Proves S rules pairs (set ∷ further) (node ∷ after)
  pub measure : Measure S rules
  pub others : List (Measure S rules)
  pub by_kind : AreMeasures S rules pairs (set ∷ further) (node ∷ after) (measure ∷ others)
  pub measures : Measures S rules pairs set measure
