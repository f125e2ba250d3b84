use Rattle.std.proofs.Common.{map, ◌∙◌}
use Rattle.wh_system.specs.SystemView.{system_data}
use Rattle.wh_reduction_pairs.specs.TaskView.{task_data}
use Rattle.wh_cert.specs.Said.{said_filter}
use Rattle.wh_order_node.specs.FilteringView.{filtering_data}
use Rattle.wh_proof.proofs.FilterLemmas.{as_many_filters}
use Rattle.wh_order_check.proofs.TypedCalls.{typed_calls}
use Rattle.wh_tell_nodes.proofs.ordered.put_under.Goals as goal

pub are_proper-requires-clause-filters : goal.are_proper-requires-clause-filters
are_proper-requires-clause-filters c =
    let d = system_data c.args.task.now.system.now in
    let D = filtering_data c.args.filters.now in
    record {
      each_symbol = as_many_filters d.fun_names (map said_filter c.args.node.now.funs) D.symbols c.requires.says.0.0
          ∙ c.is_well_made.ensures.symbols_named;
      marked = c.requires.says.1;
    }

pub put_rules-requires-clause-filters : goal.put_rules-requires-clause-filters
put_rules-requires-clause-filters c = c.in_ok-proper.ensures c.if-proper.true

pub put_pairs-requires-clause-filters : goal.put_pairs-requires-clause-filters
put_pairs-requires-clause-filters c = c.in_ok-proper.ensures c.if-proper.true

pub put_pairs-requires-clause-calls : goal.put_pairs-requires-clause-calls
put_pairs-requires-clause-calls c =
    let T = task_data c.args.task.now in typed_calls T.symbols T.rules T.pairs c.requires.task.typed
