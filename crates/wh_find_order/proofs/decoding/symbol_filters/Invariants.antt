use Rattle.std.proofs.Common.{◌≡◌, length, map}
use Rattle.wh_order_inference.specs.Said.{written_filter}
use Rattle.wh_poly_blocking.specs.Sizes.{value_of}
use Rattle.wh_find_order.specs.Encodings.{AreFiltersFrom}
use Rattle.wh_find_order.proofs.decoding.symbol_filters.Given as goal

abbrev pub invariant-loop-number : goal.invariant-loop-number
invariant-loop-number l = record {
  count : length l.funs ≡ l.number;
  filters : AreFiltersFrom l.encoding (value_of l.values) 0 (map written_filter l.funs);
}
