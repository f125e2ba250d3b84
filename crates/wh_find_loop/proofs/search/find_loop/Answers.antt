use Rattle.std.proofs.Common.{subst}
use Rattle.wh_system.specs.SystemView.{system_data}
use Rattle.wh_find_loop.specs.Searching.{Comes, GoesThrough}
use Rattle.wh_find_loop.proofs.SearchLemmas.{reaches_fewer, all_visited}
use Rattle.wh_find_loop.proofs.search.find_loop.Goals as goal

pub returns-in-More : goal.returns-in-More
returns-in-More c =
    let d = system_data c.args.system.now in
    let new = c.search.new.listing in
    let through : GoesThrough d c.args.depth c.args.visited new = subst (Comes d c.args.depth c.args.visited (GoesThrough d c.args.depth c.args.visited new) new) c.in-More.is c.in_ok-search.ensures in
    (through.no_loop, reaches_fewer d c.args.depth c.args.visited new through)

pub returns-in-Full : goal.returns-in-Full
returns-in-Full c =
    let d = system_data c.args.system.now in
    let new = c.search.new.listing in
    let told = subst (Comes d c.args.depth c.args.visited (GoesThrough d c.args.depth c.args.visited new) new) c.in-Full.is c.in_ok-search.ensures in
    all_visited d c.args.depth c.args.visited new c.in_ok-visits_of-in-Full.field-0 told.0 told.1 c.in_ok-visits_of-in-Full.ensures
