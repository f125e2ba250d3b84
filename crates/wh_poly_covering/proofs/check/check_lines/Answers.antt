use Rattle.std.proofs.Common.{ℕ, ◌↔◌, List, Contains, sym, subst}
use Rattle.wh_reduction_pairs.specs.TaskView.{task_data}
use Rattle.wh_reduction_pairs.proofs.Lines.{right_pair_same}
use Rattle.wh_polycheck.specs.ReadingsView.{readings_data}
use Rattle.wh_polycheck.specs.Small.{with_limits}
use Rattle.wh_poly_covering.specs.CoveringFaults.{right_lines, wrong_lines}
use Rattle.wh_poly_covering.specs.EvidenceView.{evidence_data}
use Rattle.wh_poly_covering.proofs.CoverWalk.{ok_so, cause_so, pairs_same, pair_fault_first}
use Rattle.wh_poly_covering.proofs.check.check_lines.Goals as goal

pub returns-clause-pairs : goal.returns-clause-pairs
returns-clause-pairs c =
    let T = task_data c.args.task.now in
    let R = readings_data c.args.readings.now in
    let E = evidence_data c.args.evidence.now in
    let same = subst (λ (l : List ℕ). (n : ℕ) → Contains l n ↔ Contains E.drop n) (sym c.as_slice.ensures.value) c.in_ok-dropped.ensures.same in
    ok_so c.check_pairs.result _ _
    (λ right k. right_pair_same (right_lines with_limits T.symbols T.rules R) (wrong_lines with_limits T.symbols T.rules R) T E.of_pairs
    c.as_slice.result.now E.drop same k (right k)) c.check_pairs.ensures.ok

pub returns-clause-fault : goal.returns-clause-fault
returns-clause-fault c =
    let T = task_data c.args.task.now in
    let R = readings_data c.args.readings.now in
    let E = evidence_data c.args.evidence.now in
    let same = subst (λ (l : List ℕ). (n : ℕ) → Contains l n ↔ Contains E.drop n) (sym c.as_slice.ensures.value) c.in_ok-dropped.ensures.same in
    cause_so c.check_pairs.result _ _
    (λ f h. pair_fault_first T R E c.requires.ready c.in_ok-check_rules.ensures.ok f (pairs_same T R E.of_pairs c.as_slice.result.now E.drop same f h))
    c.check_pairs.ensures.fault
