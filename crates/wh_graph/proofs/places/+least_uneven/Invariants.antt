use Rattle.std.proofs.Common.{length}
use Rattle.wh_graph.proofs.places.+least_uneven.Given as goal

abbrev pub decreases-least_uneven : goal.decreases-least_uneven
decreases-least_uneven l = length l.set.now
