use Rattle.std.proofs.Common.{◌≡◌, Some, slice_get, length, refl, eqb-true}
use Rattle.std.proofs.lemmas.Option.{slice_get_read}
use Rattle.wh_terms.specs.Erase.{tm}
use Rattle.wh_loop_reached.proofs.ListingLemmas.{lists_at_told, lists_other, lists_past}
use Rattle.wh_loop_reached.proofs.listing.lists_at.Goals as goal

pub returns-then-entry-start : goal.returns-then-entry-start
returns-then-entry-start c =
    let entries = c.args.entries.now in
    let e = c.in-Some.entry.now in
    let k = c.args.number in
    let here : slice_get entries k ≡ Some e = slice_get_read entries (length entries) k e refl c.in-Some.ensures.lookup.3.0 c.in-Some.ensures.lookup.1 in
    lists_at_told entries k c.args.start e (tm c.args.term.now) c.same.result here c.if-entry-start.true c.same.ensures

pub returns-else-entry-start : goal.returns-else-entry-start
returns-else-entry-start c =
    let entries = c.args.entries.now in
    let e = c.in-Some.entry.now in
    let k = c.args.number in
    let here : slice_get entries k ≡ Some e = slice_get_read entries (length entries) k e refl c.in-Some.ensures.lookup.3.0 c.in-Some.ensures.lookup.1 in
    lists_other entries k c.args.start e (tm c.args.term.now) _ here c.if-entry-start.false (λ yes. c.if-entry-start.false (eqb-true _ _ yes))

pub returns-in-None : goal.returns-in-None
returns-in-None c = lists_past c.args.entries.now c.args.number (record { start = c.args.start; term = tm c.args.term.now }) c.in-None.ensures.lookup.3
