use Rattle.std.proofs.Common.{None}
use Rattle.wh_order_node.specs.FilteringView.{filtering_data}
use Rattle.wh_order.proofs.LineLemmas.{line_judged, line_bad}
use Rattle.wh_order.proofs.check.check_inference.Goals as goal

pub returns-in-Ok : goal.returns-in-Ok
returns-in-Ok c S rules M sides =
    line_judged S rules (filtering_data c.args.filters.now) M c.args.left.now c.args.right.now c.args.inference.now None sides (λ w over. (c.in-Ok.ensures w over).0)

pub returns : goal.returns
returns c = line_bad (filtering_data c.args.filters.now) c.args.left.now c.args.right.now c.args.inference.now _ c.in-Err.e _ c.in-Err.ensures
