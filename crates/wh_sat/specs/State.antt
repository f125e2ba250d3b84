-- The state of a learner as its callers see it: the clauses that were given and those that were learnt.
use Rattle.std.specs.Prelude.{◌≡◌, ℕ, ◌+◌, ◌<◌, ◌≤◌, true, false, List, [], length, get_or, take}
use Rattle.wh_sat_trail.specs.declared.literal.Literal.{Literal}
use Rattle.wh_sat_trail.specs.State.{assigned, formula_of, marks_of}
use Rattle.wh_sat.specs.declared.learner.Learner.{Learner}
use Rattle.wh_sat.specs.Learning.{Derives, Has}
use Rattle.wh_sat.specs.Solving.{Known}

abbrev pub variables_of : Learner → ℕ
variables_of learner = (formula_of learner.trail).variables

abbrev pub clauses_of : Learner → List (List Literal)
clauses_of learner = (formula_of learner.trail).clauses

-- between two searches nothing is decided, and what is true derives from the clauses alone
pub record Sound (learner : Learner) : Type 0 where
  pub known : Known (variables_of learner) (clauses_of learner) learner.learnt.items
  pub ground : marks_of learner.trail ≡ []
  pub derived : (m : Literal) → Has (assigned learner.trail) m → Derives (clauses_of learner) [] m

-- clauses have joined that were learnt, each for one of those that were left
pub record Extends (before after : Learner) : Type 0 where
  pub variables : variables_of after ≡ variables_of before
  pub clauses : take (length (clauses_of before)) (clauses_of after) ≡ clauses_of before
  pub earlier : take (length before.learnt.items) after.learnt.items ≡ before.learnt.items
  pub later : (k : ℕ) → length before.learnt.items ≤ k → k < length after.learnt.items → get_or after.learnt.items k false ≡ true
  pub count : length (clauses_of after) + after.left ≡ length (clauses_of before) + before.left

-- one clause has been learnt, and the trail is at the ground level
pub record Learns (before after : Learner) : Type 0 where
  pub sound : Sound after
  pub extends : Extends before after
  pub fewer : after.left < before.left
