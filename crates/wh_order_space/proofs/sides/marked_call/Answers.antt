use Rattle.std.proofs.Common.{map}
use Rattle.wh_terms.specs.Erase.{tm}
use Rattle.wh_system.specs.SystemView.{system_data}
use Rattle.wh_order_space.proofs.CallLemmas.{called}
use Rattle.wh_order_space.proofs.sides.marked_call.Goals as goal

pub returns : goal.returns
returns c =
    let S = (system_data c.args.system.now).symbols in
    called c.signature.result.now S c.as_slice.result.now c.in_ok-symbols.symbols c.args.symbol c.in_ok-sum.field-0 (map tm c.args.arguments.now) c.call.result
    c.signature.ensures c.as_slice.ensures c.in_ok-symbols.ensures c.in_ok-sum.ensures c.call.ensures
