-- The outcome of a guess: a node, or a condition that fails.
use Rattle.std.specs.Prelude.{ℕ, ◌≡◌, List, Option, None, length}
use Rattle.wh_system.specs.SystemView.{system_data}
use Rattle.wh_reduction_pairs.specs.TaskView.{task_data}
use Rattle.wh_reduction_pairs.specs.declared.task.Task.{Task}
use Rattle.wh_polycheck.specs.Readings.{ReadingsData}
use Rattle.wh_cert.specs.Said.{said_node}
use Rattle.wh_poly_guesses.specs.Conditions.{Fails}
use Rattle.wh_usable.specs.Closed.{IsUsable}
use Rattle.wh_proof.specs.Looked.{covered_rules}
use Rattle.wh_poly_guesses.specs.Found.{IsInterpretationOver}
use Rattle.wh_poly_guesses.specs.declared.node.Weighing.{Weighing}
use Rattle.wh_poly_guesses.specs.declared.node.Weighing.TheVariants.{Found, Failing}

-- a node of interpretations that lists these rules, or none, or the number of a condition that fails
abbrev pub WeighsOver : Task → Option (List ℕ) → ReadingsData → Weighing → Type 0
WeighsOver t usable R (Found node) =
    IsInterpretationOver (system_data t.system.now) (task_data t).pairs (task_data t).set usable (said_node node)
WeighsOver t usable R (Failing k) = Fails (task_data t) R k

-- the answer about a node that lists no rules
abbrev pub Weighs : Task → ReadingsData → Weighing → Type 0
Weighs t = WeighsOver t None

-- the list of a node names the rules of the task, and these are closed for its set
pub record AreRulesOf (t : Task) (usable : Option (List ℕ)) : Type 0 where
  pub covers : (task_data t).covered ≡ covered_rules usable (length (task_data t).rules)
  pub closed : IsUsable (task_data t)
