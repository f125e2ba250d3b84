use Rattle.wh_reduction_pairs.specs.TaskView.{task_data}
use Rattle.wh_polycheck.specs.ReadingsView.{readings_data}
use Rattle.wh_poly_guesses.proofs.LineLemmas.{HasPairLines}
use Rattle.wh_poly_guesses.proofs.lines.pair_lines.Given as goal

abbrev pub invariant-loop-i : goal.invariant-loop-i
invariant-loop-i l = HasPairLines (task_data l.task) (readings_data l.readings) l.i l.lines l.drop
