use Rattle.std.proofs.Common.{take}
use Rattle.wh_hopoly.specs.Erase.{transfers}
use Rattle.wh_poly_moves.specs.Flows.{NoneBetween}
use Rattle.wh_poly_moves.proofs.flow.place_of.Given as goal

abbrev pub invariant-loop-place : goal.invariant-loop-place
invariant-loop-place l = NoneBetween l.giver l.taker (take l.place (transfers l.moves))
