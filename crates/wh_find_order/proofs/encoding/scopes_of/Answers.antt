use Rattle.std.proofs.Common.{ap, ◌∙◌}
use Rattle.wh_types.specs.Erase.{tys}
use Rattle.wh_reduction_pairs.specs.TaskView.{task_data}
use Rattle.wh_find_order.proofs.TableLemmas.{scopes_are}
use Rattle.wh_find_order.proofs.encoding.scopes_of.Goals as goal

pub returns : goal.returns
returns c =
    scopes_are (task_data c.args.task.now) c.args.marked.now c.as_slice.result.now _ _ (ap tys c.as_slice.ensures ∙ ap (λ S. S.funs) c.signature.ensures)
    c.in_ok-scopes.ensures c.in_ok-add_mark_scopes.ensures
