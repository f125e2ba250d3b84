use Rattle.std.proofs.Common.{◌-◌, arith}
use Rattle.wh_order.proofs.KeptLemmas.{picked_at}
use Rattle.wh_order.proofs.kept.picked.Goals as goal

pub returns : goal.returns
returns c some within =
    picked_at c.args.behind.items c.args.place (c.len-2.result - c.args.place) c.swap_remove.result (omega (arith, c.len-2.ensures, c.args.behind.ok.0)) c.swap_remove.ensures.value some within
