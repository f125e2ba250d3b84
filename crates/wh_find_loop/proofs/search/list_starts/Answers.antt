use Rattle.std.proofs.Common.{◌≡◌, ◌<◌, Some, slice_get, length, refl, arith}
use Rattle.std.proofs.lemmas.Option.{slice_get_read}
use Rattle.wh_terms.specs.Erase.{tm}
use Rattle.wh_system.specs.SystemView.{system_data}
use Rattle.wh_find_loop.proofs.SearchLemmas.{starting_none, starting_next, starting_all}
use Rattle.wh_find_loop.proofs.search.list_starts.Goals as goal

pub loop-number-init : goal.loop-number-init
loop-number-init c = starting_none (system_data c.args.system.now) c.args.visited c.args.listing.now c.requires.keys c.requires.none c.requires.some

pub list_start-requires-clause-keys : goal.list_start-requires-clause-keys
list_start-requires-clause-keys c = c.loop-number.invariant.listing.keys

pub list_start-requires-clause-marked : goal.list_start-requires-clause-marked
list_start-requires-clause-marked c = c.loop-number.invariant.listing.marked

pub loop-number-preserved : goal.loop-number-preserved
loop-number-preserved c =
    let d = system_data c.args.system.now in
    let starts = c.args.starts.now in
    let i = c.loop-number.number in
    let start = c.index-starts-number.result in
    let new = c.list_start.new.listing in
    let before = c.loop-number.invariant in
    let here : slice_get starts i ≡ Some start = slice_get_read starts (length starts) i start refl c.loop-number-test.true c.index-starts-number.is in
    let (is, typed) = c.requires.starts.each i start here in
    let fewer : length new.entries.items < c.args.visited = omega (arith, c.if-len-visited.false, c.len.ensures, new.entries.ok.0) in
    starting_next d c.args.visited i (tm start) c.loop-number.listing new before is (c.in_ok-list_start.ensures d before.listing is typed) fewer

pub returns : goal.returns
returns c =
    let d = system_data c.args.system.now in
    let before = c.loop-number.invariant in
    (before.listing, starting_all d c.args.starts.now c.args.visited c.loop-number.number c.loop-number.listing c.requires.starts c.loop-number-test.false before, before.fewer)

pub returns-then-len-visited : goal.returns-then-len-visited
returns-then-len-visited c =
    let d = system_data c.args.system.now in
    let starts = c.args.starts.now in
    let i = c.loop-number.number in
    let start = c.index-starts-number.result in
    let new = c.list_start.new.listing in
    let before = c.loop-number.invariant in
    let here : slice_get starts i ≡ Some start = slice_get_read starts (length starts) i start refl c.loop-number-test.true c.index-starts-number.is in
    let (is, typed) = c.requires.starts.each i start here in
    let takes = c.in_ok-list_start.ensures d before.listing is typed in
    (takes.listing, omega (arith, c.if-len-visited.true, c.len.ensures, new.entries.ok.0, takes.one_more, before.fewer))
