-- By the steps of the argument.
use Rattle.wh_order_path.proofs.FilteredSteps.{call_steps}
use Rattle.wh_order_path.proofs.steps.steps_in_calls_are_filtered_steps.Goals as goal

pub returns : goal.returns
returns c S F Φ prec rules f ts us cs o p s = call_steps S F Φ prec rules o.well_made o.sorts_known o.filters o.one_sort o.lines f ts us cs p s
