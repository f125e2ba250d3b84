use Rattle.std.proofs.Common.{Option, subst}
use Rattle.wh_order_inference.specs.declared.inference.Inference.{Inference}
use Rattle.wh_order_path.specs.Verdict.{at_least}
use Rattle.wh_order_node.specs.FilteringView.{filtering_data}
use Rattle.wh_order_infer.specs.Lines.{IsFound}
use Rattle.wh_order_lines.proofs.lines.weak_line.Goals as goal

pub returns-in-Some : goal.returns-in-Some
returns-in-Some c = (
  c.requires,
  subst (λ (r : Option Inference). IsFound (filtering_data c.args.filters.now) at_least c.args.left.now c.args.right.now r) c.in-Some.is c.in_ok-inference.ensures,
)

pub returns-in-None : goal.returns-in-None
returns-in-None c =
    subst (λ (r : Option Inference). IsFound (filtering_data c.args.filters.now) at_least c.args.left.now c.args.right.now r) c.in-None.is c.in_ok-inference.ensures
