use Rattle.std.proofs.Common.{length, ◌∙◌}
use Rattle.wh_system.specs.SystemView.{system_data}
use Rattle.wh_pairs.specs.Views.{pairs_data}
use Rattle.wh_reduction_pairs.specs.TaskData.{numbers_from}
use Rattle.wh_reduction_pairs.proofs.Numbers.{numbers_within}
use Rattle.wh_checker.proofs.GoLemmas.{typed_task}
use Rattle.wh_tell_nodes.proofs.ordered.put_inferences.Goals as goal

pub put_under-requires-clause-task : goal.put_under-requires-clause-task
put_under-requires-clause-task c =
    let d = system_data c.args.problem.now.system in
    let pairs = c.args.problem.now.pairs in
    typed_task d pairs c.as_slice.result.now c.args.set.now c.as_slice-2.result.now c.deref.result.now (numbers_from 0 (length d.rules))
    c.as_slice.ensures c.as_slice-2.ensures.numbers (c.deref.ensures.value ∙ c.in_ok-covered.ensures) (numbers_within (length d.rules))
    c.requires.set c.as_slice-2.ensures.increasing
    (λ marks p found. c.pairs_have_marked_sides.ensures d (pairs_data pairs) marks p c.is_well_made.ensures c.requires.pairs.are found)
