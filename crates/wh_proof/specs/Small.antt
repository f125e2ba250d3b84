-- Proofs in which no value exceeds the limits of a program when the sides of rules and pairs are evaluated.
use Rattle.std.specs.Prelude.{ℕ, List, [], ◌∷◌, ◌++◌}
use Rattle.wh_terms.specs.Typing.{Symbols}
use Rattle.wh_terms.specs.Rules.{RewriteRule}
use Rattle.wh_system.specs.Systems.{SystemData}
use Rattle.wh_pairs.specs.PairData.{PairData}
use Rattle.wh_cert.specs.Written as w
use Rattle.wh_cert.specs.Written.{Cert, yes, no}
use Rattle.wh_proof.specs.Nodes.{Node, poly, Leaves}
use Rattle.wh_reduction_pairs.specs.TaskData.{task_over}
use Rattle.wh_polycheck.specs.Small.{Limits, with_limits, IsSmall}
use Rattle.wh_proof.specs.Looked.{SayNodes}
use Rattle.wh_pairs.specs.Sets.{IsWhole}

-- with limits, no value exceeds one in the evaluation of the sides that a node of interpretations asks for on the set
abbrev pub IsSmallNode : Limits → Symbols → List RewriteRule → List PairData → List ℕ → Node → Type 0
IsSmallNode with_limits S rules pairs set (poly covered R E) = IsSmall (task_over S rules pairs set covered) R
IsSmallNode _ S rules pairs set _ = Unit {0}

-- the nodes, in preorder, prove the sets, and each is small on its set (ours)
pub data AreSmall (S : Symbols) (rules : List RewriteRule) (pairs : List PairData) : List (List ℕ) → List Node → Type 0 where
  all_small : AreSmall S rules pairs [] []
  one_small : {set : List ℕ} {left sets : List (List ℕ)} {node : Node} {nodes : List Node} → Leaves S rules pairs set node left
      → IsSmallNode with_limits S rules pairs set node → AreSmall S rules pairs (left ++ sets) nodes
      → AreSmall S rules pairs (set ∷ sets) (node ∷ nodes)

-- the nodes of a YES certificate are small (ours)
pub record IsSmallYes (d : SystemData) (ps : List PairData) (lines : List w.Node) : Type 0 where
  pub set : List ℕ
  pub whole : IsWhole ps set
  pub nodes : List Node
  pub says : SayNodes d lines nodes
  pub small : AreSmall d.symbols d.rules ps (set ∷ []) nodes
