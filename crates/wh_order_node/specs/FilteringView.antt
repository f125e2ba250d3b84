-- The data that the filters of a node stand for.
use Rattle.std.specs.Prelude.{map}
use Rattle.wh_order_inference.specs.Said.{written_filter}
use Rattle.wh_order_node.specs.Filterings as f
use Rattle.wh_order_node.specs.declared.filters.Filters.{Filters}
use Rattle.wh_order_node.specs.declared.filters.MarkFilter.{MarkFilter}

abbrev pub mark_filter : MarkFilter → f.MarkFilter
mark_filter m = record { symbol = m.symbol; filter = written_filter m.filter }

abbrev pub filtering_data : Filters → f.FilteringData
filtering_data d = record { symbols = map written_filter d.funs; marks = map mark_filter d.marks }
