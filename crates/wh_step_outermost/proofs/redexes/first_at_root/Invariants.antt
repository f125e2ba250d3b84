use Rattle.wh_terms.specs.Erase.{tm, rewrite_rules}
use Rattle.wh_step_outermost.proofs.RootSearch.{NoneBefore}
use Rattle.wh_step_outermost.proofs.redexes.first_at_root.Given as goal

abbrev pub invariant-loop-i : goal.invariant-loop-i
invariant-loop-i l = NoneBefore (rewrite_rules l.rules) (tm l.term) l.i
