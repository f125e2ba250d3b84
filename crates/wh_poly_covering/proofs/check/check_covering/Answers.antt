use Rattle.wh_reduction_pairs.specs.TaskView.{task_data}
use Rattle.wh_polycheck.specs.ReadingsView.{readings_data}
use Rattle.wh_polycheck.specs.Small.{with_limits}
use Rattle.wh_poly_covering.specs.EvidenceView.{evidence_data}
use Rattle.wh_poly_covering.proofs.LineLemmas.{handed_on}
use Rattle.wh_poly_covering.proofs.CoverWalk.{ok_both, covering_holds, small_holds}
use Rattle.wh_polycheck.proofs.ProperReadings.{sides_of_set}
use Rattle.wh_poly_covering.proofs.check.check_covering.Goals as goal

pub returns-in_err-check_ready-clause-fault : goal.returns-in_err-check_ready-clause-fault
returns-in_err-check_ready-clause-fault c =
    handed_on (Unit {0}) c.from_residual.result c.in_err-check_ready.field-0.0 _ _ c.from_residual.ensures.1 c.in_err-check_ready.ensures

pub check_lines-requires-clause-proper : goal.check_lines-requires-clause-proper
check_lines-requires-clause-proper c =
    let T = task_data c.args.task.now in
    let R = readings_data c.args.readings.now in
    record {
      interpreted = c.interpretations_in_order_interpret.ensures T.symbols R.symbols c.requires.readings.kinds;
      normal = c.in_ok-check_ready.ensures.normal;
    }

pub check_lines-requires-clause-sides : goal.check_lines-requires-clause-sides
check_lines-requires-clause-sides c n p found there =
    let T = task_data c.args.task.now in
    let R = readings_data c.args.readings.now in
    sides_of_set T.pairs T.set R.marks c.requires.readings.marked T.symbols T.rules c.requires.task.typed p (n, found, there)

pub returns-clause-covering : goal.returns-clause-covering
returns-clause-covering c =
    let T = task_data c.args.task.now in
    let R = readings_data c.args.readings.now in
    let E = evidence_data c.args.evidence.now in
    ok_both c.check_lines.result _ _ _
    (λ rules pairs. covering_holds T R E with_limits c.in_ok-check_ready.ensures rules pairs c.requires.readings)
    c.check_lines.ensures.rules c.check_lines.ensures.pairs

pub returns-clause-closed : goal.returns-clause-closed
returns-clause-closed c = ok_both c.check_lines.result _ _ _ (λ rules pairs. c.in_ok-check_ready.ensures.closed) c.check_lines.ensures.rules c.check_lines.ensures.pairs

pub returns-clause-small : goal.returns-clause-small
returns-clause-small c =
    let T = task_data c.args.task.now in
    let R = readings_data c.args.readings.now in
    let E = evidence_data c.args.evidence.now in
    ok_both c.check_lines.result _ _ _ (λ rules pairs. small_holds T R E c.in_ok-check_ready.ensures rules pairs)
    c.check_lines.ensures.rules c.check_lines.ensures.pairs
