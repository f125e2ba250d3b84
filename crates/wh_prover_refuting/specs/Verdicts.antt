-- The outcomes of a search for a proof together with a refutation of projections.
use Rattle.std.specs.Prelude.{ℕ, ◌≡◌, List}
use Rattle.wh_terms.specs.Rules.{RewriteRule}
use Rattle.wh_system.specs.Systems.{SystemData}
use Rattle.wh_pairs.specs.PairData.{PairData}
use Rattle.wh_sat_trail.specs.declared.literal.Literal.{Literal}
use Rattle.wh_sat_trail.specs.declared.entry.Entry.{Entry}
use Rattle.wh_refute.specs.Refuting.{IsRefutation}
use Rattle.wh_find_subterm.specs.Formula.{IsProjections}
use Rattle.wh_find_subterm.specs.Found.{IsSpent}
use Rattle.wh_prover.specs.Answers.{IsAnswer, IsReason}
use Rattle.wh_prover.specs.declared.answer.Answer.{Answer}
use Rattle.wh_prover.specs.declared.answer.Answer.TheVariants.{Yes, No, Maybe}
use Rattle.wh_prover.specs.declared.answer.Cause.TheVariants.{NoRanks, Stuck, Spent, Full}
use Rattle.wh_prover.specs.declared.answer.Options.{Options}
use Rattle.wh_prover_refuting.specs.declared.refuting.Verdict.{Verdict}
use Rattle.wh_prover_refuting.specs.declared.refuting.Verdict.TheVariants.{Refuted, Unrefuted, Unstuck}

-- a list refutes the formula whose models are the projections of the set that let a pair go (ours)
pub record HasRefutation (rules : List RewriteRule) (pairs : List PairData) (set : List ℕ) : Type 0 where
  pub variables : ℕ
  pub clauses : List (List Literal)
  pub formula : IsProjections rules pairs set variables clauses
  pub list : List Entry
  pub refutes : IsRefutation variables clauses list

-- as many clauses as allowed were learnt from that formula (ours)
abbrev pub IsUndecided : List RewriteRule → List PairData → ℕ → List ℕ → Type 0
IsUndecided rules pairs tries set = (learnt : List (List Literal)) × IsSpent rules pairs set tries learnt

-- what a set comes to of which no projection lets a pair go (ours)
abbrev pub IsOfSet : List RewriteRule → List PairData → ℕ → List ℕ → Verdict → Type 0
IsOfSet rules pairs tries set (Refuted one) = (one ≡ set) × HasRefutation rules pairs set
IsOfSet rules pairs tries set (Unrefuted one) = (one ≡ set) × IsUndecided rules pairs tries set
IsOfSet rules pairs tries set (Unstuck answer) = ⊥

-- the search for a proof is not stuck on a set (ours)
abbrev pub IsNotStuck : Answer → Type 0
IsNotStuck (Yes certificate) = Unit {0}
IsNotStuck (No certificate) = Unit {0}
IsNotStuck (Maybe (NoRanks cause)) = Unit {0}
IsNotStuck (Maybe (Stuck set)) = ⊥
IsNotStuck (Maybe (Spent finder set list)) = Unit {0}
IsNotStuck (Maybe (Full visits)) = Unit {0}

-- the search for a proof is stuck on the set, and it is refuted or undecided; or it answers something else (ours)
abbrev pub IsVerdict : SystemData → List PairData → Options → Verdict → Type 0
IsVerdict d ps o (Refuted set) = IsReason d ps o (Stuck set) × HasRefutation d.rules ps set
IsVerdict d ps o (Unrefuted set) = IsReason d ps o (Stuck set) × IsUndecided d.rules ps o.tries set
IsVerdict d ps o (Unstuck answer) = IsAnswer d ps o answer × IsNotStuck answer
