use Rattle.std.proofs.Common.{map}
use Rattle.wh_terms.specs.Erase.{tm, rewrite_rules}
use Rattle.wh_step.specs.Enumerations.{Enumerates}
use Rattle.wh_step.proofs.EnumerationLaws.{IsRootStepBelow}
use Rattle.wh_step.proofs.reducing.root_reducts.Given as goal

abbrev pub invariant-loop-rule : goal.invariant-loop-rule
invariant-loop-rule l = Enumerates (IsRootStepBelow l.rule-index (rewrite_rules l.rules) (tm l.term)) (map tm l.found.items)
