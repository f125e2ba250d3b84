use Rattle.wh_terms.specs.Erase.{rewrite_rules}
use Rattle.wh_usable_rules.specs.Taken.{IsPass}
use Rattle.wh_usable_rules.proofs.taking.take_some.Given as goal

abbrev pub invariant-loop-number : goal.invariant-loop-number
invariant-loop-number l = IsPass (rewrite_rules l.rules) l.fn.called l.fn.taken l.called l.taken l.number l.some
