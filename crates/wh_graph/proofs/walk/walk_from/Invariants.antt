use Rattle.std.proofs.Common.{ℕ, ◌+◌, ◌*◌, length, vec_len}
use Rattle.wh_graph.specs.Graphs.{Edge, HavePassed}
use Rattle.wh_graph.specs.Walks.{IsSeen, Walked}
use Rattle.wh_graph.proofs.WalkLemmas.{unseen}
use Rattle.wh_graph.proofs.walk.walk_from.Given as goal

abbrev pub invariant-loop-vertex : goal.invariant-loop-vertex
invariant-loop-vertex l = record {
  walked : Walked (Edge l.rows) (length l.rows) l.seen l.stack.items l.order.items;
  start : IsSeen l.seen l.start;
  kept : (v : ℕ) → IsSeen l.fn.seen v → IsSeen l.seen v;
  passed : HavePassed (IsSeen l.seen) l.rows l.next;
}

abbrev pub decreases-loop-vertex : goal.decreases-loop-vertex
decreases-loop-vertex l = 2 * unseen l.seen + vec_len l.stack
