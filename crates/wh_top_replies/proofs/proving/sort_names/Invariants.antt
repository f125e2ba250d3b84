use Rattle.std.proofs.Common.{◌≡◌, map, take}
use Rattle.wh_system.specs.SystemView.{system_data}
use Rattle.wh_top_naming.specs.Rows.{sort_name}
use Rattle.wh_top_replies.proofs.proving.sort_names.Given as goal

abbrev pub invariant-loop-sort : goal.invariant-loop-sort
invariant-loop-sort l = l.names ≡ map (sort_name (system_data l.system)) (take l.sort-index l.sorts)
