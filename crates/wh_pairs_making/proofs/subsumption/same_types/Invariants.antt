use Rattle.std.proofs.Common.{◌≡◌, take}
use Rattle.wh_types.specs.Erase.{tys}
use Rattle.wh_pairs_making.proofs.subsumption.same_types.Given as goal

abbrev pub invariant-loop-i : goal.invariant-loop-i
invariant-loop-i l = tys (take l.i l.a) ≡ tys (take l.i l.b)
