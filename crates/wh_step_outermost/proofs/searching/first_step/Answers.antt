use Rattle.std.proofs.Common.{refl}
use Rattle.wh_terms.specs.Erase.{tm, rewrite_rules}
use Rattle.wh_step_outermost.proofs.LeftLaws.{none_left_root}
use Rattle.wh_step_outermost.proofs.searching.first_step.Goals as goal

pub next_step-requires-clause-none_left : goal.next_step-requires-clause-none_left
next_step-requires-clause-none_left c = none_left_root (rewrite_rules c.args.rules.now) _ (tm c.args.term.now) refl
