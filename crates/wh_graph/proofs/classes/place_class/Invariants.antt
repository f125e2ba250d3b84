use Rattle.std.proofs.Common.{◌+◌, ◌*◌, vec_len}
use Rattle.wh_graph.specs.Classes.{IsPlaced}
use Rattle.wh_graph.specs.Graphs.{Edge, HavePassed, Turned}
use Rattle.wh_graph.proofs.ClassLemmas.{Growing, unplaced}
use Rattle.wh_graph.proofs.classes.place_class.Given as goal

abbrev pub invariant-loop-vertex : goal.invariant-loop-vertex
invariant-loop-vertex l = record {
  growing : Growing (Turned (Edge l.rows)) l.root l.number l.fn.of l.of l.stack.items;
  passed : HavePassed (IsPlaced l.of) l.rows l.next;
}

abbrev pub decreases-loop-vertex : goal.decreases-loop-vertex
decreases-loop-vertex l = 2 * unplaced l.of + vec_len l.stack
