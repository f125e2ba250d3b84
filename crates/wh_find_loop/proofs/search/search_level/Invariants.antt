use Rattle.wh_system.specs.SystemView.{system_data}
use Rattle.wh_find_loop.specs.Searching.{GoesOn}
use Rattle.wh_find_loop.proofs.search.search_level.Given as goal

abbrev pub invariant-loop-at : goal.invariant-loop-at
invariant-loop-at l = GoesOn (system_data l.setting.system.now) l.level l.visited l.at l.fn.listing.entries.items l.listing
