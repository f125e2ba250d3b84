use Rattle.wh_system_parts.specs.Erase.{rparts}
use Rattle.wh_system_making.proofs.RuleSteps.{SoFar}
use Rattle.wh_system_making.proofs.rules.resolve_rules.Given as goal

abbrev pub invariant-loop-raw : goal.invariant-loop-raw
invariant-loop-raw l = SoFar (rparts l.parts) l.raw-items l.raw-index l.rules.items l.meta_names.items l.needs.items
