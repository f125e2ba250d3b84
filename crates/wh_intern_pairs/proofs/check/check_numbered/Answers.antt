use Rattle.wh_system.specs.SystemView.{system_data}
use Rattle.wh_intern_pairs.proofs.SameProjections.{checked_same}
use Rattle.wh_intern_pairs.proofs.check.check_numbered.Goals as goal

pub returns : goal.returns
returns c = λ ps are.
    checked_same (system_data c.args.system.now).rules ps c.as_slice.result.now c.args.set.now c.as_slice-2.result.now c.args.args.now c.args.drop.now
    c.check_conditions.result c.as_slice.ensures.numbers c.as_slice-2.ensures (c.check_conditions.ensures ps are)
