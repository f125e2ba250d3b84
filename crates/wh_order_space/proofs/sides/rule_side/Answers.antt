use Rattle.std.proofs.Common.{ap, ◌∙◌}
use Rattle.wh_terms.specs.Erase.{tm}
use Rattle.wh_order_space.proofs.sides.rule_side.Goals as goal

pub returns-in_ok-new-in-Ok : goal.returns-in_ok-new-in-Ok
returns-in_ok-new-in-Ok c r at = ap tm c.in_ok-new-in-Ok.ensures.ok ∙ (c.in-Ok.ensures r at).same
