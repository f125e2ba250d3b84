-- By the types that filters keep.
use Rattle.wh_order_extended.proofs.FilteredSymbols.{filtered_one_sort, filtered_known}
use Rattle.wh_order_extended.proofs.filtered.filtered_symbols_have_one_sort.Goals as goal

pub returns : goal.returns
returns c Φ css = (filtered_one_sort Φ css, filtered_known Φ css)
