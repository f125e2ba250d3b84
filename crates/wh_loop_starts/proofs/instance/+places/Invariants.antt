-- A part has less weight than the whole; at one part the three calls follow each other.
use Rattle.std.proofs.Common.{◌+◌, ◌*◌}
use Rattle.wh_terms.specs.Erase.{tm}
use Rattle.wh_terms.proofs.TermLemmas.{weight}
use Rattle.wh_loop_starts.proofs.instance.+places.Given as goal

abbrev pub decreases-instance_from : goal.decreases-instance_from
decreases-instance_from l = 3 * weight (tm l.here.now) + 2

abbrev pub decreases-instance_below : goal.decreases-instance_below
decreases-instance_below l = 3 * weight (tm l.here.now) + 1

abbrev pub decreases-instance_in : goal.decreases-instance_in
decreases-instance_in l = 3 * weight (tm l.child.now) + 3
