use Rattle.std.proofs.Common.{ℕ, ◌<◌, ◌≤◌, length, []}
use Rattle.wh_graph.specs.Graphs.{Edge, HavePassed}
use Rattle.wh_graph.specs.Walks.{IsSeen, Walked}
use Rattle.wh_graph.proofs.walk.leaving_order.Given as goal

abbrev pub invariant-loop-start : goal.invariant-loop-start
invariant-loop-start l = record {
  walked : Walked (Edge l.rows) (length l.rows) l.seen.items [] l.order.items;
  seen : (v : ℕ) → l.start ≤ v → v < length l.rows → IsSeen l.seen.items v;
  passed : HavePassed (IsSeen l.seen.items) l.rows l.next.items;
}
