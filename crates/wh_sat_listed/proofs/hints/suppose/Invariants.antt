use Rattle.std.proofs.Common.{◌≡◌, map, take}
use Rattle.wh_sat_trail.specs.Assignment.{negated}
use Rattle.wh_refute.specs.Told.{Tells}
use Rattle.wh_sat_listed.proofs.hints.suppose.Given as goal

abbrev pub invariant-loop-literal : goal.invariant-loop-literal
invariant-loop-literal l =
    Tells l.variables l.truth (map negated (take l.literal-index l.clause)) × (l.truth.round ≡ l.initial.truth.round)
