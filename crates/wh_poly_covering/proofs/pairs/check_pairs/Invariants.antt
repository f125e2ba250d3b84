use Rattle.std.proofs.Common.{ℕ, ◌<◌, map}
use Rattle.wh_reduction_pairs.specs.TaskView.{task_data}
use Rattle.wh_reduction_pairs.specs.ReductionPair.{IsRightPair}
use Rattle.wh_hopoly.specs.Erase.{transfers}
use Rattle.wh_polycheck.specs.ReadingsView.{readings_data}
use Rattle.wh_polycheck.specs.Small.{with_limits}
use Rattle.wh_poly_covering.specs.CoveringFaults.{right_lines}
use Rattle.wh_poly_covering.proofs.pairs.check_pairs.Given as goal

abbrev pub invariant-loop-i : goal.invariant-loop-i
invariant-loop-i l =
    let T = task_data l.task in
    (k : ℕ) → k < l.i → IsRightPair (right_lines with_limits T.symbols T.rules (readings_data l.readings)) T (map transfers l.lines) l.drop k
