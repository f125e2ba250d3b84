use Rattle.std.proofs.Common.{◌≡◌, ◌+◌, ◌<◌, ◌≤◌, length, ap, subst, arith}
use Rattle.wh_system.specs.SystemView.{system_data}
use Rattle.wh_find_loop.specs.Searching.{AreDone, Comes, GoesOn, GoesThrough, ListsStarts}
use Rattle.wh_loop_reached.proofs.ListingLemmas.{longer}
use Rattle.wh_find_loop.proofs.SearchLemmas.{empty_listing, higher_listing, below_next, through_none, through_next}
use Rattle.wh_find_loop.proofs.search.search.Goals as goal

pub returns-then-visited-eq0 : goal.returns-then-visited-eq0
returns-then-visited-eq0 c =
    let l = c.args.listing.now in
    (higher_listing (system_data c.args.setting.now.system.now) 0 c.args.depth l (omega arith) (empty_listing l c.requires.keys c.requires.none), omega (arith, ap length c.requires.none, c.if-visited-eq0.true))

pub returns-then-branch : goal.returns-then-branch
returns-then-branch c =
    let d = system_data c.args.setting.now.system.now in
    let new = c.list_starts.new.listing in
    let told = subst (λ b. ListsStarts d c.args.visited b new) c.if-branch.true c.in_ok-list_starts.ensures in
    (higher_listing d 0 c.args.depth new (omega arith) told.0, told.1)

pub loop-level-init : goal.loop-level-init
loop-level-init c =
    let d = system_data c.args.setting.now.system.now in
    let new = c.list_starts.new.listing in
    let told = subst (λ b. ListsStarts d c.args.visited b new) c.if-branch.false c.in_ok-list_starts.ensures in
    (through_none d c.args.visited new told.0 told.1 told.2, λ i e low. absurd (omega arith), omega arith)

pub search_level-requires-clause-listing : goal.search_level-requires-clause-listing
search_level-requires-clause-listing c =
    let level = c.loop-level.level in
    higher_listing (system_data c.args.setting.now.system.now) level (level + 1) c.loop-level.listing (omega arith) c.loop-level.invariant.0.listing

pub search_level-requires-clause-below : goal.search_level-requires-clause-below
search_level-requires-clause-below c = below_next (system_data c.args.setting.now.system.now) c.loop-level.level c.loop-level.listing c.loop-level.invariant.0.listing

pub loop-level-preserved : goal.loop-level-preserved
loop-level-preserved c =
    let d = system_data c.args.setting.now.system.now in
    let level = c.loop-level.level in
    let visited = c.args.visited in
    let l = c.loop-level.listing in
    let new = c.search_level.new.listing in
    let goes : GoesOn d (level + 1) visited (length l.entries.items) l.entries.items new =
    subst (Comes d (level + 1) visited (GoesOn d (level + 1) visited (length l.entries.items) l.entries.items new) new) c.in-More.is c.in_ok-search_level.ensures in
    let end : length l.entries.items ≡ c.len-end.result = omega (arith, c.len-end.ensures, l.entries.ok.0) in
    let more : length l.entries.items ≤ length new.entries.items = longer l.entries.items new.entries.items goes.extends in
    (through_next d level visited l new c.loop-level.invariant.0 goes, subst (AreDone d new.entries.items) end goes.done, omega (arith, end, more))

pub returns-in-Full : goal.returns-in-Full
returns-in-Full c =
    let d = system_data c.args.setting.now.system.now in
    let level = c.loop-level.level in
    let visited = c.args.visited in
    let l = c.loop-level.listing in
    let new = c.search_level.new.listing in
    let told = subst (Comes d (level + 1) visited (GoesOn d (level + 1) visited (length l.entries.items) l.entries.items new) new) c.in-Full.is c.in_ok-search_level.ensures in
    let deep : level < c.args.depth = c.loop-level-test.true in
    (higher_listing d (level + 1) c.args.depth new (omega arith) told.0, told.1)

pub returns : goal.returns
returns c =
    let last : c.loop-level.level ≡ c.args.depth = omega (arith, c.loop-level-test.false, c.loop-level.auto.level-end) in
    subst (λ n. GoesThrough (system_data c.args.setting.now.system.now) n c.args.visited c.loop-level.listing) last c.loop-level.invariant.0
