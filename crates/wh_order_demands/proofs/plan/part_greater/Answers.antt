use Rattle.std.proofs.Common.{◌++◌, ◌∙◌, List, ap, subst}
use Rattle.wh_terms.specs.Erase.{tm}
use Rattle.wh_order_demands.specs.declared.claim.Claim.TheVariants.{Greater}
use Rattle.wh_order_demands.specs.declared.plan.Part.{Part}
use Rattle.wh_order_demands.specs.Views.{IsCallOf, IsView, items_data}
use Rattle.wh_order_demands.specs.Plans.{parts_data, left_parts}
use Rattle.wh_order_demands.proofs.RowLemmas.{part_from_call}
use Rattle.wh_order_demands.proofs.plan.part_greater.Goals as goal

pub returns-in_ok-put_left-in-Call : goal.returns-in_ok-put_left-in-Call
returns-in_ok-put_left-in-Call c = λ spots from.
    let f = c.in-Call.f in
    let s = tm c.args.left.now in
    let ss = items_data f.items.items in
    let d : IsCallOf spots s f.symbol f.first ss = subst (IsView spots s) c.in-Call.is from in
    part_from_call spots s (tm c.args.right.now) f.symbol f.first ss (parts_data c.put_left.new.parts.items) d
    (c.in_ok-put_left-in-Call.ensures ∙ ap (λ (l : List Part). parts_data l ++ left_parts f.first f.first Greater ss (tm c.args.right.now)) c.new-some.ensures.items)
