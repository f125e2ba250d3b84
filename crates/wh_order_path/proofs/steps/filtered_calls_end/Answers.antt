-- It is typed over the signature of filtered trees.
use Rattle.wh_order_path.proofs.FilteredSteps.{call_ends}
use Rattle.wh_order_path.proofs.steps.filtered_calls_end.Goals as goal

pub returns : goal.returns
returns c S F Φ prec rules f ts cs o sorts m p = call_ends S F Φ prec rules o.well_made o.sorts_known o.filters o.one_sort o.lines sorts f ts cs m p
