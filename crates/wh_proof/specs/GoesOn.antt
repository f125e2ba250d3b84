-- One node after another: which sets a node leaves of a set, and that the lines of nodes prove sets.
use Rattle.std.specs.Prelude.{◌≡◌, ◌++◌, ℕ, List}
use Rattle.wh_system.specs.Systems.{SystemData}
use Rattle.wh_pairs.specs.PairData.{PairData}
use Rattle.wh_cert.specs.Written as w
use Rattle.wh_polycheck.specs.Small.{with_limits}
use Rattle.wh_proof.specs.Nodes.{Node, Leaves}
use Rattle.wh_proof.specs.Proves.{Proves}
use Rattle.wh_proof.specs.Looked.{SaysNode, SayNodes}
use Rattle.wh_proof.specs.Small.{IsSmallNode, AreSmall}

-- the lines of a node say one whose conditions hold of the set and which is small, and what it leaves comes before the
-- other sets
pub record GoesOn (d : SystemData) (ps : List PairData) (set : List ℕ) (line : w.Node) (sets after : List (List ℕ)) : Type 0 where
  pub node : Node
  pub left : List (List ℕ)
  pub says : SaysNode d line node
  pub leaves : Leaves d.symbols d.rules ps set node left
  pub small : IsSmallNode with_limits d.symbols d.rules ps set node
  pub after_is : after ≡ left ++ sets

-- the lines say nodes that prove the sets, and each is small
abbrev pub AreProvedBy : SystemData → List PairData → List (List ℕ) → List w.Node → Type 0
AreProvedBy d ps sets lines = (nodes : List Node) × SayNodes d lines nodes × Proves d.symbols d.rules ps sets nodes
    × AreSmall d.symbols d.rules ps sets nodes
