-- The answers of the solver about a formula.
use Rattle.std.specs.Prelude.{◌≡◌, ℕ, ◌<◌, ◌≤◌, ◌^◌, Bool, false, List, length, get_or}
use Rattle.wh_sat_trail.specs.declared.literal.Literal.{Literal}
use Rattle.wh_sat.specs.declared.solving.Outcome.{Outcome}
use Rattle.wh_sat.specs.declared.solving.Outcome.TheVariants.{Sat, Unsat, Spent}
use Rattle.wh_sat.specs.Learning.{Learnt}
use Rattle.wh_sat.specs.Solving.{Solves}

-- for n variables, some clauses and a budget of learnt clauses; with no budget at all it is spent, and one above 3 ^ n
-- never is
abbrev pub IsOutcome : ℕ → List (List Literal) → ℕ → Outcome → Type 0
IsOutcome n clauses budget (Sat values) = (0 < budget) × (length values.items ≡ n) × Solves (λ v. get_or values.items v false) clauses
IsOutcome n clauses budget Unsat = (0 < budget) × ((v : ℕ → Bool) → Solves v clauses → ⊥)
IsOutcome n clauses budget (Spent learnt) = (length learnt ≡ budget) × Learnt n clauses learnt × (budget ≤ 3 ^ n)
