-- The walk of the search over sets of pairs: what holds before and after each node.
use Rattle.std.specs.Prelude.{ℕ, ◌≡◌, ◌+◌, ◌*◌, ◌^◌, ◌<◌, ◌≤◌, List, [], ◌∷◌, ◌++◌, length, map, reverse, All}
use Rattle.wh_system.specs.Systems.{SystemData}
use Rattle.wh_system.specs.SystemView.{system_data}
use Rattle.wh_system.specs.declared.system.System.{System}
use Rattle.wh_pairs.specs.PairData.{PairData}
use Rattle.wh_pairs.specs.Views.{pairs_data}
use Rattle.wh_pairs.specs.declared.pair.Pair.{Pair}
use Rattle.wh_cert.specs.Written as w
use Rattle.wh_cert.specs.Written.{Preorder}
use Rattle.wh_cert.specs.Limits.{ArgFits, NodeFits, NodeWithin}
use Rattle.wh_cert.specs.Said.{said_node}
use Rattle.wh_cert.specs.declared.certificate.Node.{Node}
use Rattle.wh_find_subterm.specs.Found.{IsSpent}
use Rattle.wh_poly_guesses.specs.Found.{task_of}
use Rattle.wh_interpreting.specs.Interpreted.{HasNone, IsOpen}
use Rattle.wh_order_space.specs.Space.{HasNoOrder}
use Rattle.wh_find_order.specs.Answers as ordered
use Rattle.wh_subterm.specs.Projections.{Chosen}
use Rattle.wh_proof.specs.Looked.{SayChoices}
use Rattle.wh_proof.specs.GoesOn.{GoesOn, AreProvedBy}
use Rattle.wh_prover.specs.Arriving.{Arrives, Ended, HasNoProjection}
use Rattle.wh_prover.specs.Versions.{IsMade}
use Rattle.wh_prover.specs.declared.answer.Cause.{Cause}
use Rattle.wh_prover.specs.declared.answer.Cause.TheVariants.{NoRanks, Stuck, Spent, Full}
use Rattle.wh_prover.specs.declared.answer.Finder.TheVariants.{Subterm, Poly, Order}

-- more nodes than a proof for a set of pairs can have: for n pairs 3 * n - 1, and 1 for the empty set (ours)
abbrev pub weigh : List ℕ → ℕ
weigh [] = 1
weigh (n ∷ ns) = 3 * length ns + 2

-- more nodes than proofs for some sets together can have
abbrev pub weight : List (List ℕ) → ℕ
weight [] = 0
weight (set ∷ sets) = weigh set + weight sets

-- why the walk ended on a set (ours)
abbrev pub IsEnd : SystemData → List PairData → ℕ → Cause → Type 0
IsEnd d ps tries (NoRanks cause) = ⊥
IsEnd d ps tries (Stuck set) = (0 < tries) × Ended d ps set × HasNoProjection d.rules ps set × HasNone d ps set tries
    × HasNoOrder (task_of d ps set)
IsEnd d ps tries (Spent Subterm set list) = Ended d ps set × IsSpent d.rules ps set tries list
IsEnd d ps tries (Spent Poly set list) = (0 < tries) × Ended d ps set × HasNoProjection d.rules ps set × IsOpen d ps set tries list
IsEnd d ps tries (Spent Order set list) = (0 < tries) × Ended d ps set × HasNoProjection d.rules ps set
    × HasNone d ps set tries × ordered.IsSpent d ps set tries list
IsEnd d ps tries (Full visits) = ⊥

-- the lines of a node are for these choices and this drop list, and fit (ours)
abbrev pub SaysProjection : SystemData → w.Node → List Chosen → List ℕ → Type 0
SaysProjection d line args drop = (lines : List w.Arg) × (line ≡ w.subterm lines drop) × SayChoices d lines args × All ArgFits lines

-- the pairs that the lines of a node drop
abbrev pub dropped_by : w.Node → List ℕ
dropped_by (w.subterm lines drop) = drop
dropped_by (w.interpretations usable funs marks rules pairs drop) = drop
dropped_by (w.order funs marks rules pairs drop) = drop
dropped_by _ = []

-- a node for the set joins the lines: its conditions hold, what it leaves comes before the other sets, and its lines
-- are within the limits of certificates; the search comes to what it leaves, and that weighs less than the set (ours)
pub record Adds (d : SystemData) (ps : List PairData) (set : List ℕ) (sets after : List (List ℕ))
    (lines longer : List w.Node) : Type 0 where
  pub line : w.Node
  pub joined : longer ≡ lines ++ line ∷ []
  pub goes : GoesOn d ps set line sets after
  pub fits : NodeFits line
  pub within : NodeWithin (2 ^ 32) line
  pub made : IsMade d line
  pub arrives : All (Arrives d ps) goes.left
  pub lighter : weight goes.left < weigh set

-- a node joins the program's nodes; the last set of its stack is the next one
abbrev pub AddsNode : System → List Pair → List ℕ → List (List ℕ) → List (List ℕ) → List Node → List Node → Type 0
AddsNode system pairs set stack after nodes longer =
    Adds (system_data system) (pairs_data pairs) set (reverse stack) (reverse after) (map said_node nodes) (map said_node longer)

-- a walk that began with one set has come to these sets, with these lines for those before them (ours)
pub record HasWalked (d : SystemData) (ps : List PairData) (set : List ℕ) (sets : List (List ℕ)) (lines : List w.Node) : Type 0 where
  pub arrive : All (Arrives d ps) sets
  pub fit : All NodeFits lines
  pub within : All (NodeWithin (2 ^ 32)) lines
  pub made : All (IsMade d) lines
  pub few : length lines + weight sets ≤ weigh set
  -- where the rest is one tree for each set, the whole is one tree
  pub counted : (rest : List w.Node) → Preorder (length sets) rest → Preorder 1 (lines ++ rest)
  -- where the rest proves the sets, the whole proves the one that the walk began with
  pub proved : (rest : List w.Node) → AreProvedBy d ps sets rest → AreProvedBy d ps (set ∷ []) (lines ++ rest)

-- the lines are a tree within the limits of certificates, which proves the set (ours)
pub record IsTree (d : SystemData) (ps : List PairData) (set : List ℕ) (lines : List w.Node) : Type 0 where
  pub fit : All NodeFits lines
  pub within : All (NodeWithin (2 ^ 32)) lines
  pub made : All (IsMade d) lines
  pub few : length lines ≤ weigh set
  pub counted : Preorder 1 lines
  pub proved : AreProvedBy d ps (set ∷ []) lines
