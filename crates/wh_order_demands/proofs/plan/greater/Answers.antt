use Rattle.std.proofs.Common.{◌≡◌, ◌++◌, ◌∙◌, List, ap, subst}
use Rattle.wh_terms.specs.Erase.{tm}
use Rattle.wh_order_demands.specs.declared.claim.Claim.TheVariants.{Greater}
use Rattle.wh_order_demands.specs.declared.plan.Part.{Part}
use Rattle.wh_order_demands.specs.Views.{IsCallOf, IsView, items_data}
use Rattle.wh_order_demands.specs.Plans.{parts_data, left_parts}
use Rattle.wh_order_demands.proofs.RowLemmas.{greater_planned}
use Rattle.wh_order_demands.proofs.plan.greater.Goals as goal

pub returns-in_ok-put_left-in-Call : goal.returns-in_ok-put_left-in-Call
returns-in_ok-put_left-in-Call c = λ spots from to.
    let f = c.in-Call.f in
    let s = tm c.args.left.now in
    let ss = items_data f.items.items in
    let d : IsCallOf spots s f.symbol f.first ss = subst (IsView spots s) c.in-Call.is from in
    let picked = c.in_ok-picked-in-Call.picked in
    let parts : parts_data c.put_left.new.parts.items ≡ left_parts f.first picked Greater ss (tm c.args.right.now) =
    c.in_ok-put_left-in-Call.ensures ∙ ap (λ (l : List Part). parts_data l ++ left_parts f.first picked Greater ss (tm c.args.right.now)) c.new-some.ensures.items in
    greater_planned spots s (tm c.args.right.now) f.symbol f.first picked ss (parts_data c.put_left.new.parts.items) c.above_from.result d c.in_ok-picked-in-Call.ensures parts
    (c.above_from.ensures spots picked d to parts)

pub returns-in-Other : goal.returns-in-Other
returns-in-Other c = λ spots from to.
    c.greater_to.ensures spots (tm c.args.right.now) (subst (IsView spots (tm c.args.left.now)) c.in-Other.is from) to
