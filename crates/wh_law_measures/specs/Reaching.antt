-- What a call can still reach by steps in its arguments.
use Rattle.std.specs.Prelude.{ℕ, ◌≡◌, List}
use Rattle.wh_terms.specs.Tree.{tms_of}
use Rattle.wh_terms.specs.Value.{Body, Values}
use Rattle.wh_terms.specs.Rules.{RewriteRule}
use Rattle.wh_step.specs.Step.{Step}
use Rattle.wh_pairs.specs.PairData.{PairData}
use Rattle.wh_pairs.specs.Sets.{InSet}
use Rattle.wh_proof_calls.specs.MarkedCalls.{MarkedCall, ArgumentsStep}
use Rattle.wh_proof_nodes.specs.Many.{Many}

-- the call is an instance of the pair's left side
pub record IsCallOf (p : PairData) (c : MarkedCall) : Type 0 where
  pub bodies : ℕ → Body
  pub symbol : c.symbol ≡ p.left_fun
  pub left : Values bodies (tms_of p.left) (tms_of c.arguments)

-- steps in its arguments, zero or more, lead from the call to an instance of the pair's left side
abbrev pub CanReach : List RewriteRule → PairData → MarkedCall → Type 0
CanReach rules p c = (d : MarkedCall) × Many (ArgumentsStep (Step rules)) c d × IsCallOf p d

-- the call can still reach the left side of a pair of the set
abbrev pub CanReachSome : List RewriteRule → List PairData → List ℕ → MarkedCall → Type 0
CanReachSome rules pairs set c = (p : PairData) × InSet pairs set p × CanReach rules p c
