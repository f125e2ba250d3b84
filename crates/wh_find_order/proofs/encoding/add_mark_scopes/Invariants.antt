use Rattle.std.proofs.Common.{◌≡◌, ◌++◌, map, take}
use Rattle.wh_system.specs.SystemView.{system_data}
use Rattle.wh_polycheck.specs.Marks.{marked_types}
use Rattle.wh_order_space.specs.Spotted.{types_in}
use Rattle.wh_find_order.proofs.encoding.add_mark_scopes.Given as goal

abbrev pub invariant-loop-symbol : goal.invariant-loop-symbol
invariant-loop-symbol l =
    types_in l.scopes.items ≡ types_in l.initial.scopes.items ++ map (marked_types (system_data l.system).symbols (system_data l.system).rules) (take l.symbol-index l.marked)
