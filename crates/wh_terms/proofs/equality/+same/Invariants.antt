use Rattle.std.proofs.Common.{◌≡◌, take}
use Rattle.wh_terms.specs.Erase.{tm, tms}
use Rattle.wh_terms.proofs.TermLemmas.{weight, weights}
use Rattle.wh_terms.proofs.equality.+same.Given as goal

abbrev pub decreases-same : goal.decreases-same
decreases-same l = weight (tm l.a.now)

abbrev pub decreases-same_terms : goal.decreases-same_terms
decreases-same_terms l = weights (tms l.a.now)

abbrev pub invariant-same_terms-loop-i : goal.invariant-same_terms-loop-i
invariant-same_terms-loop-i l = tms (take l.i l.items) ≡ tms (take l.i l.others)
