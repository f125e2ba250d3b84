use Rattle.std.proofs.Common.{◌≡◌, ◌+◌, drop}
use Rattle.wh_poly_flat.specs.Dominance.{place_among}
use Rattle.wh_find_flat.proofs.formula.place.Given as goal

abbrev pub invariant-loop-place : goal.invariant-loop-place
invariant-loop-place l = place_among l.marked l.symbol ≡ l.place + place_among (drop l.place l.marked) l.symbol
