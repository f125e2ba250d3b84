use Rattle.wh_system.specs.SystemView.{system_data}
use Rattle.wh_find_loop.proofs.SearchLemmas.{Starting}
use Rattle.wh_find_loop.proofs.search.list_starts.Given as goal

abbrev pub invariant-loop-number : goal.invariant-loop-number
invariant-loop-number l = Starting (system_data l.system) l.visited l.number l.listing
