-- By the inference, for values as a function.
use Rattle.std.proofs.Common.{sym}
use mathlib.Core.Path.{subst₂}
use Rattle.wh_terms.specs.StepOver.{StepOver}
use Rattle.wh_terms.proofs.ValueLaws.{value_is}
use Rattle.wh_order_extended.specs.Many.{Plus}
use Rattle.wh_order_path.specs.OrderRoot.{OrderRoot}
use Rattle.wh_order_path.proofs.OrderSteps.{greater_steps}
use Rattle.wh_order_path.proofs.order.trees_greater_are_steps.Goals as goal

pub returns : goal.returns
returns c F prec M s t u v i g φ p k h w x =
    subst₂ (Plus (StepOver (OrderRoot F prec))) (sym (value_is w).1) (sym (value_is x).1) (greater_steps F prec p g φ k h)
