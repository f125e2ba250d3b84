use Rattle.std.proofs.Common.{◌≡◌, map, take}
use Rattle.wh_order_inference.specs.Said.{written_filter}
use Rattle.wh_proof.proofs.filters.lines_of_filters.Given as goal

abbrev pub invariant-loop-i : goal.invariant-loop-i
invariant-loop-i l = record {
  names : map (λ l. l.name) l.lines ≡ take l.i l.names;
  filters : map (λ l. written_filter l.filter) l.lines ≡ map written_filter (take l.i l.filters);
}
