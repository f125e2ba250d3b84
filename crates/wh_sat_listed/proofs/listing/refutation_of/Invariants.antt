use Rattle.std.proofs.Common.{◌≡◌, ◌+◌, [], take}
use Rattle.wh_refute.specs.Told.{Tells}
use Rattle.wh_sat_listed.proofs.Entries.{SoFar}
use Rattle.wh_sat_listed.proofs.listing.refutation_of.Given as goal

abbrev pub invariant-loop-number : goal.invariant-loop-number
invariant-loop-number l =
    SoFar l.formula.variables (take l.given l.formula.clauses) l.formula.clauses l.number l.list
    × Tells l.formula.variables l.truth [] × (l.truth.round + l.given ≡ l.number + 1)
