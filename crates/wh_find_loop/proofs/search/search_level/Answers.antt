use Rattle.std.proofs.Common.{◌≡◌, ◌+◌, length, subst, arith}
use Rattle.wh_system.specs.SystemView.{system_data}
use Rattle.wh_find_loop.specs.Searching.{Comes, GoesOn}
use Rattle.wh_find_loop.proofs.SearchLemmas.{goes_none, goes_next}
use Rattle.wh_find_loop.proofs.search.search_level.Goals as goal

pub loop-at-init : goal.loop-at-init
loop-at-init c = goes_none (system_data c.args.setting.now.system.now) c.args.level c.args.visited c.args.from c.args.listing.now c.requires.listing c.requires.done c.requires.fewer

pub loop-at-preserved : goal.loop-at-preserved
loop-at-preserved c =
    let d = system_data c.args.setting.now.system.now in
    let l = c.loop-at.listing in
    let new = c.search_entry.new.listing in
    let at = c.loop-at.at in
    let goes : GoesOn d c.args.level c.args.visited (at + 1) l.entries.items new =
    subst (Comes d c.args.level c.args.visited (GoesOn d c.args.level c.args.visited (at + 1) l.entries.items new) new) c.in-More.is c.in_ok-search_entry.ensures in
    goes_next d c.args.level c.args.visited at (at + 1) c.args.listing.now.entries.items l new c.loop-at.invariant goes

pub returns : goal.returns
returns c =
    let old = c.args.listing.now.entries in
    let end : c.loop-at.at ≡ length old.items = omega (arith, c.len-end.ensures, old.ok.0, c.loop-at-test.false, c.loop-at.auto.at-end, c.requires.from) in
    subst (λ m. GoesOn (system_data c.args.setting.now.system.now) c.args.level c.args.visited m old.items c.loop-at.listing) end c.loop-at.invariant
