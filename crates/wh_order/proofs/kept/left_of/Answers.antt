use Rattle.std.proofs.Common.{reverse}
use Rattle.wh_order.proofs.KeptLemmas.{keep_left, pick_left}
use Rattle.wh_order.proofs.kept.left_of.Goals as goal

pub returns-in_ok-chosen-in-Keep : goal.returns-in_ok-chosen-in-Keep
returns-in_ok-chosen-in-Keep c cs proper count =
    keep_left c.args.filter.now _ c.in-Keep.places c.as_slice.result.now cs (reverse c.args.behind.items) c.in_ok-chosen-in-Keep.field-0 c.in-Keep.is c.as_slice.ensures c.in_ok-chosen-in-Keep.ensures proper count

pub returns-in_ok-picked-in-Pick : goal.returns-in_ok-picked-in-Pick
returns-in_ok-picked-in-Pick c cs proper count =
    pick_left c.args.filter.now c.in-Pick.place cs c.args.behind.items c.in_ok-picked-in-Pick.field-0 c.in-Pick.is c.in_ok-picked-in-Pick.ensures proper count
