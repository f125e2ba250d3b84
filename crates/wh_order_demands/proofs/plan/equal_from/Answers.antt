use Rattle.std.proofs.Common.{◌+◌, ◌++◌, ◌∙◌, List, length, ap, subst}
use Rattle.wh_terms.specs.Erase.{tm}
use Rattle.wh_order_demands.specs.declared.claim.Claim.TheVariants.{Equal}
use Rattle.wh_order_demands.specs.declared.plan.Part.{Part}
use Rattle.wh_order_demands.specs.Views.{IsCallOf, IsView, items_data}
use Rattle.wh_order_demands.specs.Plans.{PartData, parts_data, whole_data, left_parts, right_parts}
use Rattle.wh_order_demands.proofs.RowLemmas.{equal_from_other, equal_from_same, equal_from_others}
use Rattle.wh_order_demands.proofs.plan.equal_from.Goals as goal

pub returns-in-Other : goal.returns-in-Other
returns-in-Other c = λ spots call view.
    let f = c.args.f.now in
    let ss = items_data f.items.items in
    equal_from_other spots (tm c.args.left.now) (tm c.args.right.now) f.symbol f.first ss (parts_data c.pick_left.new.parts.items) call (subst (IsView spots (tm c.args.right.now)) c.in-Other.is view)
    (c.in_ok-pick_left-in-Other.ensures ∙ ap (λ (l : List Part). parts_data l ++ left_parts (length ss + f.first) (length ss + f.first) Equal ss (tm c.args.right.now)) c.new-some.ensures.items)

pub returns-then-f-g : goal.returns-then-f-g
returns-then-f-g c = λ spots call view.
    let f = c.args.f.now in
    let g = c.in-Call.g in
    let ss = items_data f.items.items in
    let ts = items_data g.items.items in
    let d : IsCallOf spots (tm c.args.right.now) g.symbol g.first ts = subst (IsView spots (tm c.args.right.now)) c.in-Call.is view in
    equal_from_same spots (tm c.args.left.now) (tm c.args.right.now) f.symbol f.first g.symbol g.first ss ts (parts_data c.new-some.result.items) (whole_data c.in_ok-all-in-Call.all) call d c.if-f-g.true
    c.in_ok-all-in-Call.ensures

pub returns : goal.returns
returns c = λ spots call view.
    let f = c.args.f.now in
    let g = c.in-Call.g in
    let ss = items_data f.items.items in
    let ts = items_data g.items.items in
    let d : IsCallOf spots (tm c.args.right.now) g.symbol g.first ts = subst (IsView spots (tm c.args.right.now)) c.in-Call.is view in
    equal_from_others spots (tm c.args.left.now) (tm c.args.right.now) f.symbol f.first g.symbol g.first ss ts (parts_data c.pick_right.new.parts.items) call d c.if-f-g.false
    (c.in_ok-pick_right-in-Call.ensures ∙ ap (λ (l : List PartData). l ++ right_parts (length ts + g.first) (length ts + g.first) Equal (tm c.args.left.now) ts)
    (c.in_ok-pick_left-in-Call.ensures ∙ ap (λ (l : List Part). parts_data l ++ left_parts (length ss + f.first) (length ss + f.first) Equal ss (tm c.args.right.now)) c.new-some.ensures.items))
