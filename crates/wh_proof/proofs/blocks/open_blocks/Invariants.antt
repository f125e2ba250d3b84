use Rattle.std.proofs.Common.{◌≡◌, ℕ, List, ◌++◌, drop, reverse}
use Rattle.wh_proof.specs.Nodes.{AreSetsOf}
use Rattle.wh_proof.proofs.blocks.open_blocks.Given as goal

abbrev pub invariant-loop-i : goal.invariant-loop-i
invariant-loop-i l =
    (sets : List (List ℕ)) × AreSetsOf (drop l.i l.blocks) sets × (reverse l.stack.items ≡ sets ++ reverse l.initial.stack.items)
