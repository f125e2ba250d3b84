use Rattle.std.proofs.Common.{◌≡◌, take, map}
use Rattle.wh_terms.specs.Erase.{tm}
use Rattle.wh_pairs_making.proofs.subsumption.same_terms.Given as goal

abbrev pub invariant-loop-i : goal.invariant-loop-i
invariant-loop-i l = map tm (take l.i l.items) ≡ map tm (take l.i l.others)
