use Rattle.std.proofs.Common.{◌≤◌, length}
use Rattle.wh_system.specs.SystemView.{system_data}
use Rattle.wh_find_loop.specs.Searching.{GoesThrough, AreDone}
use Rattle.wh_find_loop.proofs.search.search.Given as goal

abbrev pub invariant-loop-level : goal.invariant-loop-level
invariant-loop-level l = GoesThrough (system_data l.setting.system.now) l.level l.visited l.listing × AreDone (system_data l.setting.system.now) l.listing.entries.items l.from × (l.from ≤ length l.listing.entries.items)
