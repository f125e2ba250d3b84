-- Each law of instances is one of the rules.
use Rattle.wh_step_laws.proofs.SystemSteps.{rules_root}
use Rattle.wh_step_laws.proofs.roots.rules_are_roots.Goals as goal

pub returns : goal.returns
returns c S rules w = rules_root S rules w
