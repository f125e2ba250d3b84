-- The answers of a search that can go on: a model, that there is none, or that the budget is spent.
use Rattle.std.specs.Prelude.{◌≡◌, ℕ, ◌<◌, Bool, false, [], length, get_or}
use Rattle.wh_sat.specs.declared.learner.Learner.{Learner}
use Rattle.wh_sat.specs.declared.learner.Next.{Next}
use Rattle.wh_sat.specs.declared.learner.Next.TheVariants.{Model, Exhausted, Spent}
use Rattle.wh_sat.specs.Learning.{Refutes}
use Rattle.wh_sat.specs.Solving.{Solves, SolvesGiven}
use Rattle.wh_sat.specs.State.{clauses_of, variables_of}

abbrev pub Answers : Learner → Next → Type 0
Answers learner (Model values) = (0 < learner.left) × (length values.items ≡ variables_of learner)
    × Solves (λ v. get_or values.items v false) (clauses_of learner)
Answers learner Exhausted = (0 < learner.left) × ((v : ℕ → Bool) → SolvesGiven v (clauses_of learner) learner.learnt.items → ⊥)
Answers learner Spent = learner.left ≡ 0

-- where no values make all clauses true, propagation alone finds a clause with only false literals
abbrev pub IsRefutedInTheEnd : Learner → Next → Type 0
IsRefutedInTheEnd learner Exhausted = Refutes (clauses_of learner) []
IsRefutedInTheEnd learner _ = Unit {0}
