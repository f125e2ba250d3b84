-- The nodes of a termination proof, once the names in them are looked up, and the sets that they leave.
use Rattle.std.specs.Prelude.{ℕ, List, [], ◌∷◌, Contains}
use Rattle.wh_terms.specs.Typing.{Symbols}
use Rattle.wh_terms.specs.Rules.{RewriteRule}
use Rattle.wh_pairs.specs.PairData.{PairData}
use Rattle.wh_pairs.specs.Sets.{IsSetOf, IsKept}
use Rattle.wh_graph.specs.May.{Follows}
use Rattle.wh_graph.specs.Blocks.{AreBlocks}
use Rattle.wh_subterm.specs.Projections.{Chosen}
use Rattle.wh_subterm.specs.SubtermRows.{IsProjection}
use Rattle.wh_reduction_pairs.specs.TaskData.{task_over, whole_task}
use Rattle.wh_reduction_pairs.specs.ReductionPair.{Evidence}
use Rattle.wh_hopoly.specs.Moves.{Transfer}
use Rattle.wh_polycheck.specs.Readings.{ReadingsData}
use Rattle.wh_polycheck.specs.Covering.{IsCovering}
use Rattle.wh_usable.specs.Closed.{IsUsable}
use Rattle.wh_order_inference.specs.Inferences.{Inference}
use Rattle.wh_order_node.specs.Filterings.{FilteringData}
use Rattle.wh_order_node.specs.Ordering.{IsOrdering}

-- a node of a proof: there is no pair; the one pair may not follow itself; the pairs fall into blocks; arguments get
-- smaller; none of the covered rules and no pair grows under interpretations, and some pairs shrink; no rule and no
-- pair grows in a path order behind argument filters, and some pairs shrink (Kop 2012; Fuhs and Kop 2012 and 2019)
pub data Node : Type 0 where
  done alone : Node
  blocks : (parts : List (List ℕ)) → Node
  subterm : (args : List Chosen) (drop : List ℕ) → Node
  poly : (covered : List ℕ) (R : ReadingsData) (E : Evidence (List Transfer)) → Node
  order : (D : FilteringData) (E : Evidence Inference) → Node

-- the sets are those of the blocks, in order
pub data AreSetsOf : List (List ℕ) → List (List ℕ) → Type 0 where
  no_sets : AreSetsOf [] []
  more_sets : {part set : List ℕ} {parts sets : List (List ℕ)} → IsSetOf (Contains part) set → AreSetsOf parts sets
      → AreSetsOf (part ∷ parts) (set ∷ sets)

-- `Leaves S rules pairs set node sets`: the conditions of the node hold of the set of pairs, and what is left to be
-- proved are the sets, in order (Kop 2012, processors; Fuhs and Kop 2012 and 2019; the form is ours)
pub data Leaves (S : Symbols) (rules : List RewriteRule) (pairs : List PairData) : List ℕ → Node → List (List ℕ) → Type 0 where
  by_done : Leaves S rules pairs [] done []
  by_alone : {a : ℕ} → (Follows rules pairs a a → ⊥) → Leaves S rules pairs (a ∷ []) alone []
  by_blocks : {set : List ℕ} {parts sets : List (List ℕ)} → AreBlocks (Follows rules pairs) set parts → AreSetsOf parts sets
      → Leaves S rules pairs set (blocks parts) sets
  by_subterm : {set drop rest : List ℕ} {args : List Chosen} → IsProjection rules pairs set args drop → IsSetOf (IsKept set drop) rest
      → Leaves S rules pairs set (subterm args drop) (rest ∷ [])
  by_poly : {set covered rest : List ℕ} {R : ReadingsData} {E : Evidence (List Transfer)}
      → IsCovering (task_over S rules pairs set covered) R E → IsUsable (task_over S rules pairs set covered)
      → IsSetOf (IsKept set E.drop) rest
      → Leaves S rules pairs set (poly covered R E) (rest ∷ [])
  by_order : {set rest : List ℕ} {D : FilteringData} {E : Evidence Inference} → IsOrdering (whole_task S rules pairs set) D E
      → IsSetOf (IsKept set E.drop) rest
      → Leaves S rules pairs set (order D E) (rest ∷ [])
