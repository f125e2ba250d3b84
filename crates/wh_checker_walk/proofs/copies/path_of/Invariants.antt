-- The path so far.
use Rattle.std.proofs.Common.{◌≡◌, take}
use Rattle.wh_checker_walk.proofs.copies.path_of.Given as goal

abbrev pub invariant-loop-way : goal.invariant-loop-way
invariant-loop-way l = l.path ≡ take l.way-index l.ways
