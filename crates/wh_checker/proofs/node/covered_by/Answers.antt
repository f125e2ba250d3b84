use Rattle.std.proofs.Common.{List, ℕ, length, map, sym, subst}
use Rattle.wh_system.specs.SystemView.{system_data}
use Rattle.wh_pairs.specs.Views.{pairs_data}
use Rattle.wh_pairs.specs.Marked.{AreMarked}
use Rattle.wh_pairs.specs.Sets.{IsSetOf, IsKept}
use Rattle.wh_reduction_pairs.specs.TaskData.{TaskData}
use Rattle.wh_reduction_pairs.specs.ReductionPair.{Evidence}
use Rattle.wh_hopoly.specs.Moves.{Transfer}
use Rattle.wh_cert.specs.Said.{said_interp}
use Rattle.wh_polycheck.specs.ReadingsView.{readings_data}
use Rattle.wh_polycheck.specs.Covering.{IsCovering}
use Rattle.wh_polycheck.specs.Small.{IsSmall, with_limits}
use Rattle.wh_poly_covering.specs.CoveringFaults.{IsFirstCoveringFault}
use Rattle.wh_poly_covering.specs.declared.fault.CoveringFault.{CoveringFault}
use Rattle.wh_pairs.specs.PairData.{IsIncreasing}
use Rattle.wh_usable.specs.Closed.{IsClosed}
use Rattle.wh_proof.specs.Looked.{covered_rules, poly_task, moves_of}
use Rattle.wh_proof.proofs.InterpretationLemmas.{said_lists}
use Rattle.wh_checker.proofs.GoLemmas.{because_says, goes_poly, task_is, moves_are}
use Rattle.wh_checker.proofs.node.covered_by.Goals as goal

pub check_covering-requires-clause-readings : goal.check_covering-requires-clause-readings
check_covering-requires-clause-readings c =
    let d = system_data c.args.task.now.system.now in
    let R = readings_data c.args.readings.now in
    record {
      kinds = (said_lists d.fun_names d.symbols.funs (map said_interp c.args.node.now.funs) R.symbols c.requires.says.0.0).1;
      marked = subst (λ (set : List ℕ). AreMarked (pairs_data c.args.task.now.pairs.now) set (map (λ m. m.symbol) R.marks))
          (sym c.requires.set) c.requires.says.1;
    }

pub check_covering-requires-clause-increasing : goal.check_covering-requires-clause-increasing
check_covering-requires-clause-increasing c = subst IsIncreasing (sym c.requires.covered) c.requires.rules.0

pub returns-in_ok-kept-in-Ok : goal.returns-in_ok-kept-in-Ok
returns-in_ok-kept-in-Ok c =
    let task = c.args.task.now in
    let d = system_data task.system.now in
    let ps = pairs_data task.pairs.now in
    let set = c.args.set.now in
    let node = c.args.node.now in
    let R = readings_data c.args.readings.now in
    let rest = c.in_ok-kept-in-Ok.field-0 in
    let T = poly_task d ps set node.usable in
    let whole = task_is d.symbols d.rules ps set task.set.now task.covered.now (covered_rules node.usable (length d.rules)) c.requires.set
    c.requires.covered in
    let moves = moves_are c.as_slice.result.now node.rules c.as_slice-2.result.now node.pairs c.as_slice-3.result.now node.drop
    c.as_slice.ensures c.as_slice-2.ensures c.as_slice-3.ensures in
    let covering = subst (λ (E : Evidence (List Transfer)). IsCovering T R E) moves
    (subst (λ (x : TaskData). IsCovering x R (moves_of c.as_slice.result.now c.as_slice-2.result.now c.as_slice-3.result.now)) whole
    c.in-Ok.ensures.covering) in
    goes_poly d ps set node.usable (map said_interp node.funs) (map said_interp node.marks) node.rules node.pairs node.drop rest R
    c.requires.rules c.requires.says covering (subst IsClosed whole c.in-Ok.ensures.closed)
    (subst (λ (x : TaskData). IsSmall x R) whole c.in-Ok.ensures.small)
    (subst (λ (l : List ℕ). IsSetOf (IsKept set l) rest) c.as_slice-in-Ok.ensures c.in_ok-kept-in-Ok.ensures)

pub returns-in-Err-Because : goal.returns-in-Err-Because
returns-in-Err-Because c =
    let task = c.args.task.now in
    let d = system_data task.system.now in
    let ps = pairs_data task.pairs.now in
    let set = c.args.set.now in
    let node = c.args.node.now in
    let R = readings_data c.args.readings.now in
    let f = c.in-Err-Because.fault in
    let T = poly_task d ps set node.usable in
    let whole = task_is d.symbols d.rules ps set task.set.now task.covered.now (covered_rules node.usable (length d.rules)) c.requires.set
    c.requires.covered in
    let moves = moves_are c.as_slice.result.now node.rules c.as_slice-2.result.now node.pairs c.as_slice-3.result.now node.drop
    c.as_slice.ensures c.as_slice-2.ensures c.as_slice-3.ensures in
    let first = because_says c.in-Err-Because.field-0 f _ c.in-Err-Because.field-0-is c.in-Err-Because.ensures.fault in
    let here = subst (λ (E : Evidence (List Transfer)). IsFirstCoveringFault with_limits T R E f) moves
    (subst (λ (x : TaskData). IsFirstCoveringFault with_limits x R
    (moves_of c.as_slice.result.now c.as_slice-2.result.now c.as_slice-3.result.now) f) whole first) in (
      c.requires.rules,
      R,
      c.requires.says,
      subst (λ (g : CoveringFault). IsFirstCoveringFault with_limits T R
          (moves_of node.rules node.pairs node.drop) g) (sym c.in-Err-Because.fault-is) here,
    )
