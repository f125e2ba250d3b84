use Rattle.std.proofs.Common.{ap, ◌∙◌}
use Rattle.wh_order_known.specs.Plain.{plain}
use Rattle.wh_order_known.proofs.PlainLemmas.{copied_next, copied_meta, copied_sym, copied_mark, copied_apply}
use Rattle.wh_order_known.proofs.copies.+copying.Goals as goal

pub copy_each-loop-item-preserved : goal.copy_each-loop-item-preserved
copy_each-loop-item-preserved t c =
    copied_next c.loop-item.results c.push.new.self c.as_slice-item-items.result.now c.loop-item.item-index c.in_ok-copy_tree.field-0 c.item-item.result c.loop-item.invariant
    c.in_ok-push.ensures.ok c.in_ok-copy_tree.ensures c.loop-item-test.true c.item-item.is

pub copy_tree-returns-in_ok-copy_each-in-Meta : goal.copy_tree-returns-in_ok-copy_each-in-Meta
copy_tree-returns-in_ok-copy_each-in-Meta t c =
    copied_meta c.args.t.now c.in-Meta.meta c.in-Meta.kind c.in_ok-kind-in-Meta.kind c.in-Meta.items c.in_ok-copy_each-in-Meta.field-0 c.in-Meta.is c.in_ok-kind-in-Meta.ensures c.in_ok-copy_each-in-Meta.ensures

pub copy_tree-returns-in_ok-copy_each-in-Sym : goal.copy_tree-returns-in_ok-copy_each-in-Sym
copy_tree-returns-in_ok-copy_each-in-Sym t c =
    copied_sym c.args.t.now c.in-Sym.symbol c.in-Sym.items c.in_ok-copy_each-in-Sym.field-0 c.in-Sym.is c.in_ok-copy_each-in-Sym.ensures

pub copy_tree-returns-in_ok-copy_each-in-Mark : goal.copy_tree-returns-in_ok-copy_each-in-Mark
copy_tree-returns-in_ok-copy_each-in-Mark t c =
    copied_mark c.args.t.now c.in-Mark.symbol c.in-Mark.items c.in_ok-copy_each-in-Mark.field-0 c.in-Mark.is c.in_ok-copy_each-in-Mark.ensures

pub copy_tree-returns-in_ok-new-in-Apply : goal.copy_tree-returns-in_ok-new-in-Apply
copy_tree-returns-in_ok-new-in-Apply t c =
    copied_apply c.args.t.now c.in-Apply.head c.in_ok-new-in-Apply.field-0 c.in-Apply.items c.in_ok-items-in-Apply.items c.in-Apply.is
    (ap plain c.in_ok-new-in-Apply.ensures.ok ∙ c.in_ok-head-in-Apply.ensures ∙ ap plain c.deref-in-Apply.ensures) c.in_ok-items-in-Apply.ensures
