use Rattle.std.proofs.Common.{◌≡◌, ◌∙◌, ap, ap₂, sym, arith}
use Rattle.wh_terms.specs.Tree.{app}
use Rattle.wh_terms.specs.Erase.{tm, tms}
use Rattle.wh_terms.proofs.TermLemmas.{tm_of_meta, weight_in_meta, weight_in_item}
use Rattle.wh_text.proofs.PrintLemmas.{on_ok}
use Rattle.wh_system_making.proofs.CanonicalWalk.{named_item, named_meta}
use Rattle.wh_system_print.specs.NameViews.{printed_names}
use Rattle.wh_system_print.proofs.TreePrinting.{front_pushes, spine_pushes, meta_pushes, bracketed_pushes}
use Rattle.wh_system_print.proofs.terms.+print_tree.Goals as goal

pub print_bracketed-returns : goal.print_bracketed-returns
print_bracketed-returns t c =
    on_ok c.push.result _ _
    (bracketed_pushes (printed_names c.args.names.now) c.args.depth c.args.items.now c.as_slice.result.now c.args.out.now c.print_listed.new.out c.push.new.self c.as_slice.ensures
    (sym c.is_empty.ensures ∙ c.if-is_empty.false) c.in_ok-print_listed.ensures)
    c.push.ensures.ok

pub print_front-returns : goal.print_front-returns
print_front-returns t c =
    let is : tm c.args.term.now ≡ app (tm c.deref.result.now) (tm c.deref-2.result.now) =
    ap tm c.in-App.is ∙ ap₂ app (sym (ap tm c.deref.ensures)) (sym (ap tm c.deref-2.ensures)) in
    on_ok c.print_tree-2.result _ _
    (front_pushes (printed_names c.args.names.now) c.args.depth (tm c.args.term.now) (tm c.deref.result.now) (tm c.deref-2.result.now) c.args.out.now c.print_front.new.out c.push.new.self
    c.print_tree-2.new.out is c.in_ok-print_front.ensures c.in_ok-push.ensures.ok)
    c.print_tree-2.ensures

pub print_listed-print_tree-requires : goal.print_listed-print_tree-requires
print_listed-print_tree-requires t c = (
  omega (arith, weight_in_item c.args.items.now c.as_slice-item-items.result.now c.loop-item.item-index c.item-item.result c.as_slice-item-items.ensures c.loop-item-test.true c.item-item.is),
  named_item (printed_names c.args.names.now) c.args.depth c.args.items.now c.as_slice-item-items.result.now c.loop-item.item-index c.item-item.result c.as_slice-item-items.ensures
      c.loop-item-test.true c.item-item.is c.requires,
)

pub print_tree-print_bracketed-requires : goal.print_tree-print_bracketed-requires
print_tree-print_bracketed-requires t c = (
  omega (arith, weight_in_meta c.args.term.now c.in-Meta.meta c.in-Meta.items c.in-Meta.is),
  (named_meta (printed_names c.args.names.now) c.args.depth c.args.term.now c.in-Meta.meta c.in-Meta.items c.in-Meta.is c.requires).1,
)

pub print_tree-returns-in_ok-print_meta-in-Meta : goal.print_tree-returns-in_ok-print_meta-in-Meta
print_tree-returns-in_ok-print_meta-in-Meta t c =
    on_ok c.print_bracketed.result _ _
    (meta_pushes (printed_names c.args.names.now) c.args.depth (tm c.args.term.now) c.in-Meta.meta (tms c.in-Meta.items) c.args.out.now c.print_meta.new.out c.print_bracketed.new.out
    (tm_of_meta c.args.term.now c.in-Meta.meta c.in-Meta.items c.in-Meta.is) c.in_ok-print_meta-in-Meta.ensures)
    c.print_bracketed.ensures

pub print_tree-returns-in_ok-print_tree-in-App : goal.print_tree-returns-in_ok-print_tree-in-App
print_tree-returns-in_ok-print_tree-in-App t c =
    let is : tm c.args.term.now ≡ app (tm c.deref-in-App.result.now) (tm c.deref-in-App-2.result.now) =
    ap tm c.in-App.is ∙ ap₂ app (sym (ap tm c.deref-in-App.ensures)) (sym (ap tm c.deref-in-App-2.ensures)) in
    on_ok c.push-in-App-3.result _ _
    (spine_pushes (printed_names c.args.names.now) c.args.depth (tm c.args.term.now) (tm c.deref-in-App.result.now) (tm c.deref-in-App-2.result.now) c.args.out.now c.push-in-App.new.self
    c.print_front.new.out c.push-in-App-2.new.self c.print_tree-in-App.new.out c.push-in-App-3.new.self is
    c.in_ok-push-in-App.ensures.ok c.in_ok-print_front-in-App.ensures c.in_ok-push-in-App-2.ensures.ok c.in_ok-print_tree-in-App.ensures)
    c.push-in-App-3.ensures.ok
