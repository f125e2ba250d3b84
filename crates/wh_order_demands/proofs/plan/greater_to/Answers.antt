use Rattle.std.proofs.Common.{◌+◌, ◌++◌, ◌∙◌, List, Some, length, ap, subst}
use Rattle.wh_terms.specs.Erase.{tm}
use Rattle.wh_order_demands.specs.declared.claim.Claim.TheVariants.{Greater}
use Rattle.wh_order_demands.specs.declared.plan.Part.{Part}
use Rattle.wh_order_demands.specs.Views.{IsCallOf, IsView, items_data}
use Rattle.wh_order_demands.specs.Plans.{IsAlone, parts_data, right_parts}
use Rattle.wh_order_demands.proofs.RowLemmas.{greater_to_call, greater_never}
use Rattle.wh_order_demands.proofs.plan.greater_to.Goals as goal

pub returns-in_ok-pick_right-in-Call : goal.returns-in_ok-pick_right-in-Call
returns-in_ok-pick_right-in-Call c = λ spots t other view.
    let g = c.in-Call.g in
    let ts = items_data g.items.items in
    let d : IsCallOf spots t g.symbol g.first ts = subst (IsView spots t) c.in-Call.is view in
    greater_to_call spots (tm c.args.left.now) t g.symbol g.first ts (parts_data c.pick_right.new.parts.items) other d
    (c.in_ok-pick_right-in-Call.ensures ∙ ap (λ (l : List Part). parts_data l ++ right_parts (length ts + g.first) (length ts + g.first) Greater (tm c.args.left.now) ts) c.new-some.ensures.items)

pub returns-in-Some : goal.returns-in-Some
returns-in-Some c = λ spots t other view.
    let s = tm c.args.left.now in
    let alone : IsAlone s (Some c.in-Some.field-0) = subst (IsAlone s) c.in-Some.is c.alone.ensures in
    greater_never spots s t c.in-Some.field-0 (parts_data c.new-some-in-Some.result.items) alone
