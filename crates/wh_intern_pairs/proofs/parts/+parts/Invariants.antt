use Rattle.std.proofs.Common.{◌+◌, ◌*◌}
use Rattle.wh_intern_pairs.proofs.parts.+parts.Given as goal

abbrev pub decreases-has_part : goal.decreases-has_part
decreases-has_part l = 2 * l.whole + 1

abbrev pub decreases-some_argument_has : goal.decreases-some_argument_has
decreases-some_argument_has l = 2 * l.whole
