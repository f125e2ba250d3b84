use Rattle.std.proofs.Common.{◌≡◌, length, map, take}
use Rattle.wh_order_inference.specs.Said.{written_filter}
use Rattle.wh_poly_blocking.specs.Sizes.{value_of}
use Rattle.wh_find_order.specs.Encodings.{AreFiltersFrom, symbols_in}
use Rattle.wh_find_order.proofs.decoding.mark_filters.Given as goal

abbrev pub invariant-loop-i : goal.invariant-loop-i
invariant-loop-i l = record {
  count : length l.marks ≡ l.i;
  marks : map (λ m. m.symbol) l.marks ≡ take l.i l.encoding.marked.now;
  filters : AreFiltersFrom l.encoding (value_of l.values) (symbols_in l.encoding) (map (λ m. written_filter m.filter) l.marks);
}
