use Rattle.wh_system.specs.SystemView.{system_data}
use Rattle.wh_find_loop.proofs.SearchLemmas.{Trying}
use Rattle.wh_find_loop.proofs.search.search_entry.Given as goal

abbrev pub invariant-loop-step : goal.invariant-loop-step
invariant-loop-step l = Trying (system_data l.setting.system.now) l.level l.visited l.at l.fn.listing.entries.items l.listing l.yielded
