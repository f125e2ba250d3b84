use Rattle.wh_poly_blocking.proofs.WrittenLemmas.{lists_room, written_is}
use Rattle.wh_poly_blocking.proofs.guessing.write.Goals as goal

pub lists_by-requires : goal.lists_by-requires
lists_by-requires c = lists_room c.args.encoding.now c.deref-2.result.now c.requires c.deref-2.ensures.value

pub returns : goal.returns
returns c =
    let e = c.in_ok-guess.ensures in
    written_is c.args.encoding.now record { values = c.args.values; lists = c.in_ok-lists.lists; guess = c.in_ok-guess.guess }
    c.deref.result.now c.deref-2.result.now c.deref-3.result.now c.requires c.deref.ensures.value c.deref-2.ensures.value c.deref-3.ensures.value
    c.in_ok-lists.ensures e.guess e.marks e.lists
