use Rattle.std.proofs.Common.{subst}
use Rattle.wh_order_demands.specs.Plans.{IsAlone, parts_data}
use Rattle.wh_order_demands.proofs.RowLemmas.{equal_never}
use Rattle.wh_order_demands.proofs.plan.equal_alone.Goals as goal

pub returns-else-left-right : goal.returns-else-left-right
returns-else-left-right c = λ spots s t left right.
    equal_never spots s t c.in-Some-Some.left c.in-Some-Some.right (parts_data c.new-some.result.items) (subst (IsAlone s) c.in-Some-Some.is-0 left) (subst (IsAlone t) c.in-Some-Some.is-1 right)
    c.if-left-right.false
