use Rattle.std.proofs.Common.{arith}
use Rattle.wh_sat_trail.proofs.Guarding.{levels_few}
use Rattle.wh_sat_trail.proofs.Rooms.{length-items}
use Rattle.wh_sat_trail.proofs.trail.Trail.levels.Goals as goal

pub overflow_cast-result : goal.overflow_cast-result
overflow_cast-result c =
    let s = c.args.self.now in
    omega (arith, levels_few s.stops.items s.head _ s.ordered, s.assignment.counted, s.width, length-items s.stops, c.len.ensures)
