-- A part is evaluated after the whole that it is a part of.
use Rattle.std.proofs.Common.{◌+◌, ◌*◌}
use Rattle.wh_hopoly.specs.NumberedParts.{parts}
use Rattle.wh_hopoly.specs.Erase.{expression}
use Rattle.wh_hopoly.proofs.evaluating.+evaluate.Given as goal

abbrev pub decreases-evaluate : goal.decreases-evaluate
decreases-evaluate l = 2 * parts (expression l.expr.now)

abbrev pub decreases-evaluate_abstraction : goal.decreases-evaluate_abstraction
decreases-evaluate_abstraction l = 2 * parts (expression l.body.now) + 1

abbrev pub decreases-evaluate_application : goal.decreases-evaluate_application
decreases-evaluate_application l = 2 * (parts (expression l.function.now) + parts (expression l.argument.now)) + 1
