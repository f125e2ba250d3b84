use Rattle.std.proofs.Common.{List, reverse, ◌+◌, map, ap, subst, sym, ◌∙◌}
use Rattle.wh_order_inference.specs.Said.{written_filter}
use Rattle.wh_order_node.specs.declared.filters.MarkFilter.{MarkFilter}
use Rattle.wh_order_node.specs.FilteringView.{mark_filter}
use Rattle.wh_order_node.specs.Filterings.{mark_among}
use Rattle.wh_order_trees.specs.declared.tree.Tree.{Mark}
use Rattle.wh_order.specs.Kept.{IsFiltered}
use Rattle.wh_order.proofs.KeptLemmas.{mark_given, mark_kept, instead_kept, mark_alone, mark_next, mark_end}
use Rattle.wh_order.proofs.kept.filtered_mark.Goals as goal

pub returns-in-Arguments : goal.returns-in-Arguments
returns-in-Arguments c n cs proper count =
    let given = mark_given c.as_slice-mark-items.result.now c.args.filters.now.marks c.loop-mark.mark-index c.args.symbol c.mark-item.result cs c.as_slice-mark-items.ensures c.loop-mark-test.true c.mark-item.is
    c.if-mark-symbol.true c.loop-mark.invariant proper in
    subst (λ F. IsFiltered n (n + c.args.symbol) cs F (reverse c.args.behind.items) (Mark c.args.symbol c.in-Arguments.items)) given.1
    (mark_kept n c.args.symbol cs (written_filter c.mark-item.result.filter) (reverse c.args.behind.items) _ c.in-Arguments.items c.in-Arguments.is (c.in_ok-items.ensures cs given.0 count))

pub returns-in-Instead : goal.returns-in-Instead
returns-in-Instead c n cs proper count =
    let given = mark_given c.as_slice-mark-items.result.now c.args.filters.now.marks c.loop-mark.mark-index c.args.symbol c.mark-item.result cs c.as_slice-mark-items.ensures c.loop-mark-test.true c.mark-item.is
    c.if-mark-symbol.true c.loop-mark.invariant proper in
    subst (λ F. IsFiltered n (n + c.args.symbol) cs F (reverse c.args.behind.items) c.in-Instead.tree) given.1
    (instead_kept n (n + c.args.symbol) cs (written_filter c.mark-item.result.filter) (reverse c.args.behind.items) _ c.in-Instead.tree c.in-Instead.is (c.in_ok-items.ensures cs given.0 count))

pub loop-mark-preserved : goal.loop-mark-preserved
loop-mark-preserved c =
    mark_next c.as_slice-mark-items.result.now c.loop-mark.mark-index c.args.symbol c.mark-item.result c.loop-mark-test.true c.mark-item.is c.if-mark-symbol.false c.loop-mark.invariant

pub returns : goal.returns
returns c n cs proper count =
    subst (λ F. IsFiltered n (n + c.args.symbol) cs F (reverse c.args.behind.items) (Mark c.args.symbol c.new.result))
    (sym (ap (λ (xs : List MarkFilter). mark_among (map mark_filter xs) c.args.symbol) (sym c.as_slice-mark-items.ensures)
    ∙ mark_end c.as_slice-mark-items.result.now c.loop-mark.mark-index c.args.symbol c.loop-mark-test.false c.loop-mark.invariant))
    (mark_alone n c.args.symbol cs (reverse c.args.behind.items) c.new.result c.new.ensures)
