use Rattle.std.proofs.Common.{take}
use Rattle.wh_terms.specs.Erase.{tm, rewrite_rules}
use Rattle.wh_loop_steps.specs.StepLists.{KeepsSteps, ListsRuleSteps}
use Rattle.wh_loop_steps.proofs.candidates.add_rule_steps.Given as goal

abbrev pub invariant-loop-number : goal.invariant-loop-number
invariant-loop-number l = KeepsSteps l.fn.found.items l.found.items × ListsRuleSteps (rewrite_rules l.rules) (take l.number-index l.numbers) (tm l.term) l.way l.found.items
