use Rattle.std.proofs.Common.{◌≡◌, take}
use Rattle.wh_poly_ranges.specs.Bounds.{lists_in}
use Rattle.wh_poly_ranges.proofs.bounds.copy_lists.Given as goal

abbrev pub invariant-loop-list : goal.invariant-loop-list
invariant-loop-list l = lists_in l.made.items ≡ lists_in (take l.list-index l.lists)
