-- The sets of pairs that the search for a proof of termination comes to, and those on which it can end.
use Rattle.std.specs.Prelude.{ℕ, ◌≡◌, ◌≢◌, ◌≤◌, List, [], ◌∷◌, length, Contains}
use Rattle.wh_terms.specs.Rules.{RewriteRule}
use Rattle.wh_system.specs.Systems.{SystemData}
use Rattle.wh_pairs.specs.PairData.{PairData}
use Rattle.wh_graph.specs.May.{Follows}
use Rattle.wh_graph.specs.Components.{Reaches, AreComponents}
use Rattle.wh_subterm.specs.Projections.{Chosen}
use Rattle.wh_subterm.specs.SubtermRows.{IsProjection}
use Rattle.wh_find_subterm.specs.Found.{DropsAllBelow}
use Rattle.wh_pairs.specs.Sets.{IsSetOf, IsKept, IsWhole}
use Rattle.wh_reduction_pairs.specs.TaskData.{task_over, whole_task}
use Rattle.wh_reduction_pairs.specs.ReductionPair.{Evidence}
use Rattle.wh_hopoly.specs.Moves.{Transfer}
use Rattle.wh_polycheck.specs.Readings.{ReadingsData}
use Rattle.wh_polycheck.specs.Covering.{IsCovering}
use Rattle.wh_usable.specs.Closed.{IsUsable}
use Rattle.wh_order_inference.specs.Inferences.{Inference}
use Rattle.wh_order_node.specs.Filterings.{FilteringData}
use Rattle.wh_order_node.specs.Ordering.{IsOrdering}
use Rattle.wh_poly_guesses.specs.Conditions.{HasNoInterpretation}

-- the set is one component: each pair of it leads to each other one within it
abbrev pub IsOneComponent : List RewriteRule → List PairData → List ℕ → Type 0
IsOneComponent rules pairs set = (a b : ℕ) → Contains set a → Contains set b → Reaches (Follows rules pairs) set a b

-- the set has one number, which is not related to itself
abbrev pub IsAloneUnder : (ℕ → ℕ → Type 0) → List ℕ → Type 0
IsAloneUnder E set = (a : ℕ) × (set ≡ a ∷ []) × (E a a → ⊥)

-- the set has one pair, which may not follow itself
abbrev pub IsAlone : List RewriteRule → List PairData → List ℕ → Type 0
IsAlone rules pairs set = IsAloneUnder (Follows rules pairs) set

-- what the graph settles nothing of: a set that is not empty and is one component, and not one pair that may not follow
-- itself
pub record IsKnot (rules : List RewriteRule) (pairs : List PairData) (set : List ℕ) : Type 0 where
  pub some : set ≢ []
  pub one : IsOneComponent rules pairs set
  pub not_alone : IsAlone rules pairs set → ⊥

-- no projection lets a pair of the set go
abbrev pub HasNoProjection : List RewriteRule → List PairData → List ℕ → Type 0
HasNoProjection rules pairs set = (args : List Chosen) (drop : List ℕ) → IsProjection rules pairs set args drop → ⊥

-- the search comes to the set of all pairs; from a set with several components to each of them; from a knot to what a
-- projection leaves of it that lets some pair go and drops all pairs that are below; where no projection lets one go,
-- to what any interpretation leaves of it that covers a list of rules which is closed for it; and, where no
-- interpretation of the space lets one go, either, to what a path order leaves of it (ours)
pub data Arrives (d : SystemData) (pairs : List PairData) : List ℕ → Type 0 where
  at_all : {set : List ℕ} → IsWhole pairs set → Arrives d pairs set
  at_component : {set part component : List ℕ} {parts : List (List ℕ)} → Arrives d pairs set
      → AreComponents (Follows d.rules pairs) set parts
      → 2 ≤ length parts → Contains parts part → IsSetOf (Contains part) component → Arrives d pairs component
  behind_projection : {set drop rest : List ℕ} {args : List Chosen} → Arrives d pairs set → IsKnot d.rules pairs set
      → IsProjection d.rules pairs set args drop → DropsAllBelow pairs set args drop → IsSetOf (IsKept set drop) rest → Arrives d pairs rest
  behind_interpretation : {set rest listed : List ℕ} {R : ReadingsData} {E : Evidence (List Transfer)} → Arrives d pairs set
      → IsKnot d.rules pairs set
      → HasNoProjection d.rules pairs set
      → IsUsable (task_over d.symbols d.rules pairs set listed)
      → IsCovering (task_over d.symbols d.rules pairs set listed) R E → IsSetOf (IsKept set E.drop) rest
      → Arrives d pairs rest
  behind_order : {set rest : List ℕ} {D : FilteringData} {E : Evidence Inference} → Arrives d pairs set → IsKnot d.rules pairs set
      → HasNoProjection d.rules pairs set
      → HasNoInterpretation (whole_task d.symbols d.rules pairs set)
      → IsOrdering (whole_task d.symbols d.rules pairs set) D E → IsSetOf (IsKept set E.drop) rest
      → Arrives d pairs rest

-- the search can end on a knot that it comes to (ours)
pub record Ended (d : SystemData) (pairs : List PairData) (set : List ℕ) : Type 0 where
  pub arrives : Arrives d pairs set
  pub knot : IsKnot d.rules pairs set
