use Rattle.std.proofs.Common.{subst}
use Rattle.wh_order_space.specs.Circuited.{IsCircuited}
use Rattle.wh_find_order.specs.Encodings.{task_in}
use Rattle.wh_find_order.proofs.SearchLemmas.{nothing_told}
use Rattle.wh_find_order.proofs.find.search_encoded.Goals as goal

pub returns-in-Nothing : goal.returns-in-Nothing
returns-in-Nothing c =
    let e = c.args.encoding.now in
    nothing_told e c.requires.encoding (subst (IsCircuited (task_in e)) c.in-Nothing.is c.in_ok-circuited.ensures)
