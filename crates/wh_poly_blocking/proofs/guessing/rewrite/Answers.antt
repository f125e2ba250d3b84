use Rattle.std.proofs.Common.{length, ap, sym, ◌∙◌}
use Rattle.wh_poly_blocking.proofs.WrittenLemmas.{lists_room, written_is, written_long}
use Rattle.wh_poly_blocking.proofs.guessing.rewrite.Goals as goal

pub lists_by-requires : goal.lists_by-requires
lists_by-requires c = lists_room c.args.encoding.now c.deref-2.result.now c.requires.encoding c.deref-2.ensures.value

pub change_guess-requires-clause-same : goal.change_guess-requires-clause-same
change_guess-requires-clause-same c =
    ap length c.deref-3.ensures.value
    ∙ written_long c.args.encoding.now c.args.written.now c.deref.result.now c.deref-2.result.now c.in_ok-lists.lists.items c.requires.encoding c.requires.written
    c.deref-2.ensures.value c.in_ok-lists.ensures
    ∙ sym (ap length c.deref-4.ensures.value)

pub returns-clause-written : goal.returns-clause-written
returns-clause-written c =
    let e = c.in_ok-change_guess.ensures in
    written_is c.args.encoding.now record { values = c.args.values; lists = c.in_ok-lists.lists; guess = c.change_guess.new.guess }
    c.deref.result.now c.deref-2.result.now c.deref-4.result.now c.requires.encoding c.deref.ensures.value c.deref-2.ensures.value c.deref-4.ensures.value
    c.in_ok-lists.ensures e.guess (e.marks ∙ c.requires.written.marks) e.lists
