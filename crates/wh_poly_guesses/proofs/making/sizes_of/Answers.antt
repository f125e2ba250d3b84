use Rattle.std.proofs.Common.{ap, ◌∙◌}
use Rattle.wh_types.specs.Erase.{tys}
use Rattle.wh_system.specs.SystemView.{system_data}
use Rattle.wh_reduction_pairs.specs.TaskView.{task_data}
use Rattle.wh_poly_guesses.proofs.OkLemmas.{sizes_are}
use Rattle.wh_poly_guesses.proofs.making.sizes_of.Goals as goal

pub returns : goal.returns
returns c =
    let d = system_data c.args.task.now.system.now in
    sizes_are (task_data c.args.task.now) c.args.marked.now c.as_slice.result.now _ _ (ap tys c.as_slice.ensures ∙ ap (λ S. S.funs) c.signature.ensures) c.in_ok-sizes.ensures c.in_ok-add_sizes_of_marks.ensures
