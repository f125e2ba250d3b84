use Rattle.std.proofs.Common.{◌≡◌, ◌++◌, ◌-◌, map}
use Rattle.wh_terms.specs.Erase.{tm}
use Rattle.wh_pairs.specs.Candidates.{numbered_from}
use Rattle.wh_pairs_making.proofs.candidate.add_missing.Given as goal

abbrev pub invariant-loop-number : goal.invariant-loop-number
invariant-loop-number l = map tm l.arguments ≡ map tm l.initial.arguments ++ numbered_from l.first (l.number - l.first)
