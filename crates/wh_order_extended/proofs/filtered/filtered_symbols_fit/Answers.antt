-- By the types that filters keep.
use Rattle.wh_order_extended.proofs.FilteredSymbols.{filtered_into}
use Rattle.wh_order_extended.proofs.filtered.filtered_symbols_fit.Goals as goal

pub returns : goal.returns
returns c S Φ css h = filtered_into S Φ css h
