use Rattle.std.proofs.Common.{length, ◌+◌, ◌*◌}
use Rattle.wh_sat.proofs.halving.+halve.Given as goal

abbrev pub decreases-halve : goal.decreases-halve
decreases-halve l = 2 * length l.literals.now

abbrev pub decreases-needed_beside : goal.decreases-needed_beside
decreases-needed_beside l = 2 * length l.rest.now + 1
