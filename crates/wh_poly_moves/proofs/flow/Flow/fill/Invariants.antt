use Rattle.std.proofs.Common.{slice_index}
use Rattle.wh_poly_moves.specs.Flows.{IsFlow, WantsAlike}
use Rattle.wh_poly_moves.proofs.flow.Flow.fill.Given as goal

abbrev pub invariant-loop-alloc : goal.invariant-loop-alloc
invariant-loop-alloc l = record { flow : IsFlow l.left l.right l.self; others : WantsAlike l.root l.initial.self l.self }

abbrev pub decreases-loop-alloc : goal.decreases-loop-alloc
decreases-loop-alloc l = slice_index l.self.want.items l.root
