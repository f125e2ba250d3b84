use Rattle.wh_terms.specs.Erase.{tm, rewrite_rules}
use Rattle.wh_step_outermost.proofs.Chains.{Stands}
use Rattle.wh_step_outermost.proofs.reducing.reduce.Given as goal

abbrev pub invariant-loop-taken : goal.invariant-loop-taken
invariant-loop-taken l = Stands (rewrite_rules l.rules) (tm l.term) l.taken l.place (tm l.here) l.total
