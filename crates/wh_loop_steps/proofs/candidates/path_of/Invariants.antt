use Rattle.std.proofs.Common.{◌≡◌, take}
use Rattle.wh_loop_steps.proofs.candidates.path_of.Given as goal

abbrev pub invariant-loop-turn : goal.invariant-loop-turn
invariant-loop-turn l = l.path ≡ take l.turn-index l.way
