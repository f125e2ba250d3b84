-- The answers of the search for path orders.
use Rattle.std.specs.Prelude.{ℕ, ◌≡◌, ◌^◌, List, All, Contains, length}
use Rattle.wh_system.specs.Systems.{SystemData}
use Rattle.wh_pairs.specs.PairData.{PairData, IsIncreasing}
use Rattle.wh_pairs.specs.Marked.{AreMarked}
use Rattle.wh_reduction_pairs.specs.ReductionPair.{Evidence}
use Rattle.wh_order_inference.specs.Inferences.{Inference}
use Rattle.wh_order_node.specs.Filterings.{FilteringData}
use Rattle.wh_order_node.specs.Ordering.{IsOrdering}
use Rattle.wh_cert.specs.Written as w
use Rattle.wh_cert.specs.Limits.{NodeFits, NodeWithin}
use Rattle.wh_cert.specs.Said.{said_order}
use Rattle.wh_cert.specs.declared.order_node.OrderNode.{OrderNode}
use Rattle.wh_proof.specs.Nodes.{order}
use Rattle.wh_proof.specs.Looked.{SaysNode}
use Rattle.wh_sat_trail.specs.declared.literal.Literal.{Literal}
use Rattle.wh_sat.specs.declared.solving.Search.{Search}
use Rattle.wh_sat.specs.declared.solving.Search.TheVariants as search
use Rattle.wh_poly_guesses.specs.Found.{task_of}
use Rattle.wh_order_lines.specs.Oriented.{IsWithin}
use Rattle.wh_order_space.specs.Space.{IsOfSpace, LetsGo, HasNoOrder}
use Rattle.wh_find_order.specs.Tried.{Tried}

-- the node is one of a path order, whose conditions hold of the set, and which is tried (ours)
pub record IsOrder (d : SystemData) (ps : List PairData) (set : List ℕ) (line : w.Node) : Type 0 where
  pub filtering : FilteringData
  pub evidence : Evidence Inference
  -- the lines of the node say these filters, inferences and dropped pairs
  pub says : SaysNode d line (order filtering evidence)
  pub ordering : IsOrdering (task_of d ps set) filtering evidence
  pub of_space : IsOfSpace (task_of d ps set) filtering
  pub rules_within : All IsWithin evidence.of_rules
  pub pairs_within : All IsWithin evidence.of_pairs
  pub increasing : IsIncreasing evidence.drop
  -- each pair that the order lets go is dropped
  pub all_dropped : (n : ℕ) → LetsGo (task_of d ps set) filtering n → Contains evidence.drop n
  -- the node is within the limits of certificates
  pub fits : NodeFits line
  pub within : NodeWithin (2 ^ 32) line

-- clauses as many as the budget, each of a guess that was tried or learnt (ours)
pub record IsSpent (d : SystemData) (pairs : List PairData) (set : List ℕ) (budget : ℕ) (list : List (List Literal)) : Type 0 where
  pub count : length list ≡ budget
  pub marked : List ℕ
  pub are_marked : AreMarked pairs set marked
  pub tried : Tried (task_of d pairs set) marked list

-- a node of a path order; that none that is tried lets a pair go; or the clauses
abbrev pub IsAnswer : SystemData → List PairData → List ℕ → ℕ → Search OrderNode → Type 0
IsAnswer d pairs set budget (search.Found node) = IsOrder d pairs set (said_order node)
IsAnswer d pairs set budget search.Nothing = HasNoOrder (task_of d pairs set)
IsAnswer d pairs set budget (search.Spent list) = IsSpent d pairs set budget list
