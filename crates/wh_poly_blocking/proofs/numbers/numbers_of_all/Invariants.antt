use Rattle.std.proofs.Common.{◌≡◌, take}
use Rattle.std.specs.List.{flat_map}
use Rattle.wh_poly_blocking.specs.Numbers.{on_sides}
use Rattle.wh_poly_blocking.proofs.numbers.numbers_of_all.Given as goal

abbrev pub invariant-loop-uses : goal.invariant-loop-uses
invariant-loop-uses l = l.numbers.items ≡ flat_map on_sides (take l.uses-index l.all)
