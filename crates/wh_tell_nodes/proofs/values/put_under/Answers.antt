use Rattle.std.proofs.Common.{map}
use Rattle.wh_system.specs.SystemView.{system_data}
use Rattle.wh_reduction_pairs.specs.TaskView.{task_data}
use Rattle.wh_cert.specs.Said.{said_interp}
use Rattle.wh_polycheck.specs.ReadingsView.{readings_data}
use Rattle.wh_polycheck.proofs.ProperReadings.{sides_of_set}
use Rattle.wh_proof.proofs.InterpretationLemmas.{said_lists}
use Rattle.wh_tell_nodes.proofs.values.put_under.Goals as goal

pub are_normal-requires-clause-readings : goal.are_normal-requires-clause-readings
are_normal-requires-clause-readings c =
    let d = system_data c.args.task.now.system.now in
    let R = readings_data c.args.readings.now in
    record {
      kinds = (said_lists d.fun_names d.symbols.funs (map said_interp c.args.node.now.funs) R.symbols c.requires.says.0.0).1;
      marked = c.requires.says.1;
    }

pub put_rules-requires-clause-proper : goal.put_rules-requires-clause-proper
put_rules-requires-clause-proper c =
    let d = system_data c.args.task.now.system.now in
    let R = readings_data c.args.readings.now in
    let kinds = (said_lists d.fun_names d.symbols.funs (map said_interp c.args.node.now.funs) R.symbols c.requires.says.0.0).1 in
    record {
      interpreted = c.interpretations_in_order_interpret.ensures d.symbols R.symbols kinds;
      normal = c.in_ok-normal.ensures c.if-normal.true;
    }

pub put_pairs-requires-clause-proper : goal.put_pairs-requires-clause-proper
put_pairs-requires-clause-proper c =
    let d = system_data c.args.task.now.system.now in
    let R = readings_data c.args.readings.now in
    let kinds = (said_lists d.fun_names d.symbols.funs (map said_interp c.args.node.now.funs) R.symbols c.requires.says.0.0).1 in
    record {
      interpreted = c.interpretations_in_order_interpret.ensures d.symbols R.symbols kinds;
      normal = c.in_ok-normal.ensures c.if-normal.true;
    }

pub put_pairs-requires-clause-sides : goal.put_pairs-requires-clause-sides
put_pairs-requires-clause-sides c n p found there =
    let T = task_data c.args.task.now in
    let R = readings_data c.args.readings.now in
    sides_of_set T.pairs T.set R.marks c.requires.says.1 T.symbols T.rules c.requires.task.typed p (n, found, there)
