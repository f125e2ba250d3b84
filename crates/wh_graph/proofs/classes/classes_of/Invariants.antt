use Rattle.std.proofs.Common.{◌≡◌, ℕ, ◌+◌, ◌≤◌, length, vec_len, slice_get, Some}
use Rattle.wh_graph.specs.Classes.{AreGiven, HasClass, IsPlaced}
use Rattle.wh_graph.specs.Graphs.{Edge, HavePassed, Turned}
use Rattle.wh_graph.proofs.classes.classes_of.Given as goal

abbrev pub invariant-loop-vertex : goal.invariant-loop-vertex
invariant-loop-vertex l = record {
  given : AreGiven (Turned (Edge l.rows)) (length l.rows) l.count l.of.items;
  front : (i v : ℕ) → slice_get l.left.items i ≡ Some v → slice_get l.fn.order.items i ≡ Some v;
  placed : (i v : ℕ) → vec_len l.left ≤ i → slice_get l.fn.order.items i ≡ Some v → (c : ℕ) × HasClass l.of.items v c;
  few : l.count + vec_len l.left ≤ vec_len l.fn.order;
  passed : HavePassed (IsPlaced l.of.items) l.rows l.next.items;
}

abbrev pub decreases-loop-vertex : goal.decreases-loop-vertex
decreases-loop-vertex l = vec_len l.left
