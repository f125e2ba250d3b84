-- Filters that are proper, one for each symbol and each marked symbol of the set, are what sides are filtered by.
use Rattle.wh_reduction_pairs.specs.TaskData.{TaskData}
use Rattle.wh_order.specs.TreeSides.{AreFilters}
use Rattle.wh_order_node.specs.Filterings.{AreFiltersFor, FilteringData}
use Rattle.wh_order_check.specs.OrderingFaults.{AreProperFilters}

pub filters_are : (T : TaskData) (D : FilteringData) → AreFiltersFor T D → AreProperFilters T D → AreFilters T.symbols T.rules D
filters_are T D made proper = record {
  each_symbol = made.each_symbol;
  symbols = proper.symbols;
  marks = proper.marks;
}
