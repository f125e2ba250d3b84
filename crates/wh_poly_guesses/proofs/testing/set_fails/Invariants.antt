use Rattle.wh_reduction_pairs.specs.TaskView.{task_data}
use Rattle.wh_polycheck.specs.ReadingsView.{readings_data}
use Rattle.wh_poly_guesses.proofs.SetLemmas.{NoneStrict}
use Rattle.wh_poly_guesses.proofs.testing.set_fails.Given as goal

abbrev pub invariant-loop-number : goal.invariant-loop-number
invariant-loop-number l = NoneStrict (task_data l.task) (readings_data l.readings) l.number-index
