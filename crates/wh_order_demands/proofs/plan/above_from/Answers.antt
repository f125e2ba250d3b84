use Rattle.std.proofs.Common.{Some, subst}
use Rattle.wh_terms.specs.Erase.{tm}
use Rattle.wh_order_demands.specs.Views.{IsCallOf, IsView, items_data}
use Rattle.wh_order_demands.specs.Plans.{IsAlone, parts_data, whole_data}
use Rattle.wh_order_demands.proofs.RowLemmas.{above_from_meta, above_from_call}
use Rattle.wh_order_demands.proofs.plan.above_from.Goals as goal

pub returns-in-Some : goal.returns-in-Some
returns-in-Some c = λ spots z call view greater.
    let f = c.args.f.now in
    let ss = items_data f.items.items in
    let t = tm c.args.right.now in
    let alone : IsAlone t (Some c.in-Some.field-0) = subst (IsAlone t) c.in-Some.is c.alone.ensures in
    above_from_meta spots (tm c.args.left.now) t f.symbol f.first z ss (parts_data c.args.some.items) (parts_data c.put_left.new.parts.items) call greater c.in_ok-put_left.ensures c.in-Some.field-0 alone

pub returns : goal.returns
returns c = λ spots z call view greater.
    let f = c.args.f.now in
    let g = c.in-Call.g in
    let ss = items_data f.items.items in
    let ts = items_data g.items.items in
    let t = tm c.args.right.now in
    let d : IsCallOf spots t g.symbol g.first ts = subst (IsView spots t) c.in-Call.is view in
    above_from_call spots (tm c.args.left.now) t f.symbol f.first z ss (parts_data c.args.some.items) (parts_data c.put_left.new.parts.items) call greater c.in_ok-put_left.ensures
    g.symbol g.first ts (whole_data c.in_ok-all-in-Call.all) d c.in_ok-all-in-Call.ensures
