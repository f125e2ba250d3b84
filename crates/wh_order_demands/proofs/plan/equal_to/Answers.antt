use Rattle.std.proofs.Common.{◌+◌, ◌++◌, ◌∙◌, List, length, ap, subst}
use Rattle.wh_terms.specs.Erase.{tm}
use Rattle.wh_order_demands.specs.declared.claim.Claim.TheVariants.{Equal}
use Rattle.wh_order_demands.specs.declared.plan.Part.{Part}
use Rattle.wh_order_demands.specs.Views.{IsCallOf, IsView, items_data}
use Rattle.wh_order_demands.specs.Plans.{parts_data, right_parts}
use Rattle.wh_order_demands.proofs.RowLemmas.{equal_to_call}
use Rattle.wh_order_demands.proofs.plan.equal_to.Goals as goal

pub returns-in_ok-pick_right-in-Call : goal.returns-in_ok-pick_right-in-Call
returns-in_ok-pick_right-in-Call c = λ spots other view.
    let g = c.in-Call.g in
    let t = tm c.args.right.now in
    let ts = items_data g.items.items in
    let d : IsCallOf spots t g.symbol g.first ts = subst (IsView spots t) c.in-Call.is view in
    equal_to_call spots (tm c.args.left.now) t g.symbol g.first ts (parts_data c.pick_right.new.parts.items) other d
    (c.in_ok-pick_right-in-Call.ensures ∙ ap (λ (l : List Part). parts_data l ++ right_parts (length ts + g.first) (length ts + g.first) Equal (tm c.args.left.now) ts) c.new-some.ensures.items)

pub returns-in-Other : goal.returns-in-Other
returns-in-Other c = λ spots other view.
    c.equal_alone.ensures spots (tm c.args.left.now) (tm c.args.right.now) c.alone.ensures c.alone-in-Other.ensures
