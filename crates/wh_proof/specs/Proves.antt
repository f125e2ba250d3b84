-- `Proves`: a list of nodes, in preorder, is a termination proof for some sets of pairs.
use Rattle.std.specs.Prelude.{ℕ, List, [], ◌∷◌, ◌++◌}
use Rattle.wh_terms.specs.Typing.{Symbols}
use Rattle.wh_terms.specs.Rules.{RewriteRule}
use Rattle.wh_pairs.specs.PairData.{PairData}
use Rattle.wh_proof.specs.Nodes.{Node, Leaves}

-- `Proves S rules pairs sets nodes`: the nodes, in preorder, prove the sets, one after another; what a node leaves
-- comes before the sets behind its own (ours)
pub data Proves (S : Symbols) (rules : List RewriteRule) (pairs : List PairData) : List (List ℕ) → List Node → Type 0 where
  all_proved : Proves S rules pairs [] []
  one_proved : {set : List ℕ} {left sets : List (List ℕ)} {node : Node} {nodes : List Node} → Leaves S rules pairs set node left
      → Proves S rules pairs (left ++ sets) nodes
      → Proves S rules pairs (set ∷ sets) (node ∷ nodes)
