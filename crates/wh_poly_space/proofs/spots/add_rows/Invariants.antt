use Rattle.std.proofs.Common.{◌≡◌, ◌++◌, take}
use Rattle.wh_poly_space.specs.Spots.{rows_of}
use Rattle.wh_poly_space.proofs.spots.add_rows.Given as goal

abbrev pub invariant-loop-x : goal.invariant-loop-x
invariant-loop-x l = l.spots.items ≡ l.initial.spots.items ++ rows_of (take l.x-index l.firsts) l.seconds
