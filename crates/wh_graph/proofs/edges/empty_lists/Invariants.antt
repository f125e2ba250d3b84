use Rattle.std.proofs.Common.{◌≡◌, ℕ, List, [], All, length}
use Rattle.wh_graph.proofs.edges.empty_lists.Given as goal

abbrev pub invariant-loop : goal.invariant-loop
invariant-loop l = record {
  size : length l.lists.items ≡ l.counter;
  none : All (λ (list : List ℕ). list ≡ []) l.lists.items;
}
