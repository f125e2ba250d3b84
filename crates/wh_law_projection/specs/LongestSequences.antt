-- The length of the longest sequence of steps and direct subterms, from a term and from the projected argument of a
-- call.
use Rattle.std.specs.Prelude.{ℕ, ◌≡◌, ◌≤◌, List, length, All}
use Rattle.wh_terms.specs.Tree.{Tm}
use Rattle.wh_terms.specs.Typing.{Symbols}
use Rattle.wh_terms.specs.Rules.{RewriteRule}
use Rattle.wh_step.specs.Step.{Step}
use Rattle.wh_step.specs.Reduction.{Walk, Bounded}
use Rattle.wh_step_laws.specs.DirectSubterms.{StepOrPart}
use Rattle.wh_subterm.specs.Projections.{Chosen, IsProjected}
use Rattle.wh_proof_calls.specs.MarkedCalls.{MarkedCall, IsTypedCall}

-- the longest sequence of steps and direct subterms from t has n members: one has, and none has more (ours)
pub record IsLongestFrom (rules : List RewriteRule) (t : Tm) (n : ℕ) : Type 0 where
  pub sequence : List Tm
  pub walked : Walk (StepOrPart (Step rules)) t sequence
  pub long : length sequence ≡ n
  pub longest : (l : List Tm) → Walk (StepOrPart (Step rules)) t l → length l ≤ n

-- the projection chooses an argument of the call, and n is the length of the longest sequence from it
abbrev pub IsProjectedLength : List RewriteRule → List Chosen → MarkedCall → ℕ → Type 0
IsProjectedLength rules args c n = (t : Tm) × IsProjected args c.symbol c.arguments t × IsLongestFrom rules t n

-- the call is typed, and its arguments are bounded
pub record IsBoundedCall (S : Symbols) (rules : List RewriteRule) (c : MarkedCall) : Type 0 where
  pub typed : IsTypedCall S rules c
  pub bounded : All (Bounded rules) c.arguments
