-- What the walk through the nodes of a YES certificate keeps true.
use Rattle.std.specs.Prelude.{ℕ, ◌≡◌, ◌≢◌, ◌<◌, List, [], ◌∷◌, length, All}
use Rattle.wh_terms.specs.Rules.{RewriteRule}
use Rattle.wh_system.specs.Systems.{SystemData}
use Rattle.wh_pairs.specs.PairData.{PairData}
use Rattle.wh_access.specs.Passing.{IsPassing, IsFirstBreakIn}
use Rattle.wh_graph.specs.May.{Follows}
use Rattle.wh_subterm.specs.Projections.{Chosen}
use Rattle.wh_subterm.specs.SubtermRows.{IsProjection}
use Rattle.wh_cert.specs.Written as w
use Rattle.wh_cert.specs.Written.{Preorder}
use Rattle.wh_pairs.specs.Sets.{IsSetOf, IsKept, IsWhole}
use Rattle.wh_proof.specs.GoesOn.{AreProvedBy}
use Rattle.wh_proof.specs.Looked.{SayChoices}
use Rattle.wh_polycheck.specs.Small.{with_limits}
use Rattle.wh_checker.specs.Faults.{IsFirstNodeFault, at_node}
use Rattle.wh_checker.specs.declared.rejected.CheckFault.{CheckFault}
use Rattle.wh_checker.specs.declared.rejected.NodeFault.{NodeFault}
use Rattle.wh_checker.specs.declared.rejected.Rejected.{Rejected}
use Rattle.wh_checker.specs.declared.rejected.Rejected.TheVariants.{RankCount, Inaccessible}

-- there is a rank for each sort, and the system is passing under them
abbrev pub IsPassingUnder : SystemData → List ℕ → Type 0
IsPassingUnder d ranks = (length ranks ≡ d.symbols.sorts) × IsPassing d ranks

-- what is wrong first with ranks
abbrev pub IsRankFault : SystemData → List ℕ → Rejected → Type 0
IsRankFault d ranks RankCount = length ranks ≢ d.symbols.sorts
IsRankFault d ranks (Inaccessible r z) = (length ranks ≡ d.symbols.sorts) × IsFirstBreakIn d ranks r z
IsRankFault d ranks _ = ⊥

-- the ranks and the number of pairs are right, and the set is that of all pairs
pub record HasBegun (d : SystemData) (ps : List PairData) (ranks : List ℕ) (pairs : ℕ) (set : List ℕ) : Type 0 where
  pub passing : IsPassingUnder d ranks
  pub count : pairs ≡ length ps
  pub whole : IsWhole ps set

-- the set has one pair, which may not follow itself
abbrev pub IsSingle : List RewriteRule → List PairData → List ℕ → Type 0
IsSingle rules ps set = (a : ℕ) × (set ≡ a ∷ []) × (Follows rules ps a a → ⊥)

-- the lines say choices under which the pairs of the drop list may go, and these are the others
abbrev pub IsReduced : SystemData → List PairData → List ℕ → List w.Arg → List ℕ → List ℕ → Type 0
IsReduced d ps set lines drop rest =
    (args : List Chosen) × SayChoices d lines args × IsProjection d.rules ps set args drop × IsSetOf (IsKept set drop) rest

-- a walk over all the lines, which began with one set, has come to the line number k: these sets are open and these
-- lines are left
pub record HasCome (d : SystemData) (ps : List PairData) (set : List ℕ) (lines : List w.Node) (k : ℕ) (sets : List (List ℕ))
    (left : List w.Node) : Type 0 where
  pub within : All (All (λ n. n < length ps)) sets
  -- each set has a node
  pub counted : Preorder (length sets) left
  -- where the rest is proved, so is the whole
  pub proved : AreProvedBy d ps sets left → AreProvedBy d ps (set ∷ []) lines
  -- the first fault of the rest is that of the whole
  pub first : (m : ℕ) (f : NodeFault) → IsFirstNodeFault with_limits d ps k sets left m f
      → IsFirstNodeFault with_limits d ps 0 (set ∷ []) lines m f

-- the first node with something wrong, of those that these lines say to prove the set, has this fault
abbrev pub IsFaultInNodes : SystemData → List PairData → List ℕ → List w.Node → CheckFault → Type 0
IsFaultInNodes d ps set lines r = (k : ℕ) × (f : NodeFault) × (r ≡ at_node k f) × IsFirstNodeFault with_limits d ps 0 (set ∷ []) lines k f
