use Rattle.std.proofs.Common.{subst}
use Rattle.wh_system.specs.SystemView.{system_data}
use Rattle.wh_reduction_pairs.specs.TaskView.{task_data}
use Rattle.wh_reduction_pairs.specs.declared.task.Task.{Task}
use Rattle.wh_poly_blocking.specs.Answers.{IsAnswer}
use Rattle.wh_poly_blocking.proofs.search.find_by_guesses.Goals as goal

pub returns : goal.returns
returns c =
    subst (λ (t : Task). IsAnswer (system_data t.system.now) (task_data t).pairs (task_data t).set c.args.budget c.in_ok-found.found)
    c.in_ok-encoding.ensures.task c.in_ok-found.ensures
