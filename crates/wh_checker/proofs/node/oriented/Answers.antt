use Rattle.std.proofs.Common.{length, ◌∙◌}
use Rattle.wh_system.specs.SystemView.{system_data}
use Rattle.wh_reduction_pairs.specs.TaskData.{numbers_from}
use Rattle.wh_reduction_pairs.proofs.Numbers.{numbers_within}
use Rattle.wh_checker.proofs.GoLemmas.{typed_task}
use Rattle.wh_checker.proofs.node.oriented.Goals as goal

pub oriented_by-requires-clause-typed : goal.oriented_by-requires-clause-typed
oriented_by-requires-clause-typed c =
    typed_task (system_data c.args.system.now) c.args.pairs.now c.as_slice.result.now c.args.set.now c.as_slice-2.result.now
    c.deref.result.now (numbers_from 0 (length (system_data c.args.system.now).rules)) c.as_slice.ensures c.as_slice-2.ensures.numbers
    (c.deref.ensures.value ∙ c.in_ok-rules.ensures) (numbers_within (length (system_data c.args.system.now).rules)) c.requires.set
    c.as_slice-2.ensures.increasing c.requires.typed
