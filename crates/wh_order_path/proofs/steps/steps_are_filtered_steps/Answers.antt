-- By extension, then behind filters.
use Rattle.wh_order_path.proofs.FilteredSteps.{term_steps}
use Rattle.wh_order_path.proofs.steps.steps_are_filtered_steps.Goals as goal

pub returns : goal.returns
returns c S F Φ prec rules t u a o p s = term_steps S F Φ prec rules o.well_made o.sorts_known o.filters o.one_sort o.lines a p s
