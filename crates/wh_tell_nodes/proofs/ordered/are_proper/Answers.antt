use Rattle.wh_reduction_pairs.specs.TaskView.{task_data}
use Rattle.wh_order_node.specs.FilteringView.{filtering_data}
use Rattle.wh_checker.proofs.GoLemmas.{because_says}
use Rattle.wh_tell_nodes.proofs.Filters.{filters_are}
use Rattle.wh_tell_nodes.proofs.ordered.are_proper.Goals as goal

pub returns-in-Ok : goal.returns-in-Ok
returns-in-Ok c = λ _. record {
  each_symbol = c.requires.filters.each_symbol;
  symbols = c.in-Ok.ensures.ordering.symbols;
  marks = c.in-Ok.ensures.ordering.marks;
}

pub returns-in-Err-Because : goal.returns-in-Err-Because
returns-in-Err-Because c = λ yes.
    let T = task_data c.args.task.now in
    let D = filtering_data c.args.filters.now in
    filters_are T D c.requires.filters (c.comes_later.ensures yes T D _
    (because_says c.in-Err-Because.field-0 c.in-Err-Because.fault _ c.in-Err-Because.field-0-is c.in-Err-Because.ensures.fault))
