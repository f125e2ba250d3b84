use Rattle.wh_system.specs.SystemView.{system_data}
use Rattle.wh_subterm.proofs.CheckedRows.{checked_same}
use Rattle.wh_subterm.proofs.check.check_projection.Goals as goal

pub returns : goal.returns
returns c =
    checked_same (system_data c.args.system.now).rules c.as_slice.result.now c.args.pairs.now c.as_slice-2.result.now c.args.set.now c.as_slice-3.result.now c.args.args.now c.args.drop.now c.check_conditions.result
    c.as_slice.ensures c.as_slice-2.ensures.numbers c.as_slice-3.ensures c.check_conditions.ensures
