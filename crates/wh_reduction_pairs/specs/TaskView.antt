-- The data that a `Task` of the program stands for.
use Rattle.std.specs.Prelude.{map}
use Rattle.wh_system.specs.SystemView.{system_data}
use Rattle.wh_pairs.specs.PairData.{pair_data}
use Rattle.wh_reduction_pairs.specs.TaskData.{TaskData}
use Rattle.wh_reduction_pairs.specs.declared.task.Task.{Task}

-- the task that a `Task` stands for
abbrev pub task_data : Task → TaskData
task_data t = record {
  symbols = (system_data t.system.now).symbols;
  rules = (system_data t.system.now).rules;
  pairs = map pair_data t.pairs.now;
  set = t.set.now;
  covered = t.covered.now;
}
