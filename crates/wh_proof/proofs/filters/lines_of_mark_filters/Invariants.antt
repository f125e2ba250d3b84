use Rattle.std.proofs.Common.{◌≡◌, map, take, Some, slice_get}
use Rattle.wh_order_inference.specs.Said.{written_filter}
use Rattle.wh_proof.proofs.filters.lines_of_mark_filters.Given as goal

abbrev pub invariant-loop-mark : goal.invariant-loop-mark
invariant-loop-mark l = record {
  names : map (λ m. slice_get l.names m.symbol) (take l.mark-index l.marks) ≡ map (λ l. Some l.name) l.lines;
  filters : map (λ m. written_filter m.filter) (take l.mark-index l.marks) ≡ map (λ l. written_filter l.filter) l.lines;
}
