use Rattle.std.proofs.Common.{drop}
use Rattle.wh_terms.specs.Erase.{tms}
use Rattle.wh_terms.specs.Pattern.{Distinct}
use Rattle.wh_match.proofs.pattern.are_distinct.Given as goal

abbrev pub invariant-loop-i : goal.invariant-loop-i
invariant-loop-i l = Distinct (tms (drop l.i l.items)) → Distinct (tms l.items)
