use Rattle.std.proofs.Common.{IfOk, subst, sym}
use Rattle.wh_terms.specs.Erase.{tm}
use Rattle.wh_order_demands.specs.declared.claim.Claim.{Claim}
use Rattle.wh_order_demands.specs.Plans.{IsPlan}
use Rattle.wh_order_demands.proofs.plan.plan_of.Goals as goal

pub returns-in-Equal : goal.returns-in-Equal
returns-in-Equal c =
    subst (λ (claim : Claim). IfOk c.equal.result (IsPlan c.args.spots.now claim (tm c.args.left.now) (tm c.args.right.now))) (sym c.in-Equal.is)
    (c.equal.ensures c.args.spots.now c.in_ok-from.ensures c.in_ok-to.ensures)

pub returns-in-Greater : goal.returns-in-Greater
returns-in-Greater c =
    subst (λ (claim : Claim). IfOk c.greater.result (IsPlan c.args.spots.now claim (tm c.args.left.now) (tm c.args.right.now))) (sym c.in-Greater.is)
    (c.greater.ensures c.args.spots.now c.in_ok-from.ensures c.in_ok-to.ensures)

pub returns-in-Above : goal.returns-in-Above
returns-in-Above c =
    subst (λ (claim : Claim). IfOk c.above.result (IsPlan c.args.spots.now claim (tm c.args.left.now) (tm c.args.right.now))) (sym c.in-Above.is)
    (c.above.ensures c.args.spots.now c.in_ok-from.ensures c.in_ok-to.ensures)

pub returns-in-PartGreater : goal.returns-in-PartGreater
returns-in-PartGreater c =
    subst (λ (claim : Claim). IfOk c.part_greater.result (IsPlan c.args.spots.now claim (tm c.args.left.now) (tm c.args.right.now))) (sym c.in-PartGreater.is)
    (c.part_greater.ensures c.args.spots.now c.in_ok-from.ensures)
