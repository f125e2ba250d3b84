use Rattle.wh_terms.specs.Erase.{rewrite_rules}
use Rattle.wh_usable_rules.specs.Taken.{Takes, open_in}
use Rattle.wh_usable_rules.proofs.taking.take_all.Given as goal

abbrev pub invariant-loop : goal.invariant-loop
invariant-loop l = Takes (rewrite_rules l.rules) l.fn.called l.fn.taken l.called l.taken

abbrev pub decreases-loop : goal.decreases-loop
decreases-loop l = open_in l.taken
