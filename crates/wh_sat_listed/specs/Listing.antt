-- The answers of the solver that gives a list of clauses as evidence where a formula has no model.
use Rattle.std.specs.Prelude.{◌≡◌, ℕ, ◌+◌, ◌<◌, ◌≤◌, ◌^◌, false, List, Contains, length, get_or}
use Rattle.wh_sat_trail.specs.declared.literal.Literal.{Literal}
use Rattle.wh_sat_trail.specs.declared.entry.Entry.{Entry}
use Rattle.wh_sat.specs.Learning.{Learnt}
use Rattle.wh_sat.specs.Solving.{Solves}
use Rattle.wh_refute.specs.Refuting.{IsRefutation}
use Rattle.wh_sat_listed.specs.declared.solving.Listed.{Listed}
use Rattle.wh_sat_listed.specs.declared.solving.Listed.TheVariants.{Sat, Unsat, Spent}

-- the list refutes the formula; it has one entry for each learnt clause, of which there are no more than the budget,
-- and one more; and no entry has more hints than there are variables, and one more (ours)
pub record IsShort (n : ℕ) (clauses : List (List Literal)) (budget : ℕ) (list : List Entry) : Type 0 where
  pub refutes : IsRefutation n clauses list
  pub count : length list ≤ budget + 1
  pub hints : (e : Entry) → Contains list e → length e.hints ≤ n + 1

-- for n variables, some clauses and a budget of learnt clauses, as of the solver; but a list shows that there is no
-- model
abbrev pub IsListed : ℕ → List (List Literal) → ℕ → Listed → Type 0
IsListed n clauses budget (Sat values) = (0 < budget) × (length values.items ≡ n) × Solves (λ v. get_or values.items v false) clauses
IsListed n clauses budget (Unsat list) = (0 < budget) × IsShort n clauses budget list
IsListed n clauses budget (Spent learnt) = (length learnt ≡ budget) × Learnt n clauses learnt × (budget ≤ 3 ^ n)
