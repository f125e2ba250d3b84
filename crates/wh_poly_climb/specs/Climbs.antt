-- The answers of a climb.
use Rattle.wh_system.specs.SystemView.{system_data}
use Rattle.wh_reduction_pairs.specs.TaskView.{task_data}
use Rattle.wh_reduction_pairs.specs.declared.task.Task.{Task}
use Rattle.wh_cert.specs.Said.{said_node}
use Rattle.wh_poly_guesses.specs.Found.{IsInterpretation}
use Rattle.wh_poly_climb.specs.declared.search.Climbed.{Climbed}
use Rattle.wh_poly_climb.specs.declared.search.Climbed.TheVariants.{Found, Best}

-- a node of interpretations; of the best guess nothing is said
abbrev pub IsClimb : Task → Climbed → Type 0
IsClimb t (Found node) = IsInterpretation (system_data t.system.now) (task_data t).pairs (task_data t).set (said_node node)
IsClimb t (Best lists) = Unit {0}
