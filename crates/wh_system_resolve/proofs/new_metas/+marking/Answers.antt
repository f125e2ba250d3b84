use Rattle.std.proofs.Common.{List, refl, ap, ap₂, sym, ◌∙◌, arith, subst}
use Rattle.std.specs.Prelude.{◌||◌, ◌==◌}
use Rattle.wh_terms.specs.Erase.{tm, tms}
use Rattle.wh_terms.specs.declared.term.Term.{Term}
use Rattle.wh_terms.proofs.TermLemmas.{tm_of_meta, weight_in_meta, weight_in_item}
use Rattle.wh_system_resolve.specs.Marks.{Marks, occurs_in, occurs_in_any}
use Rattle.wh_system_resolve.proofs.MarkLemmas.{left_marked, all_marked, marks_as, marks_both}
use Rattle.wh_system_resolve.proofs.new_metas.+marking.Goals as goal

pub mark_term-mark_each-requires : goal.mark_term-mark_each-requires
mark_term-mark_each-requires t c = (omega (arith, weight_in_meta c.args.term.now c.in-Meta.number c.in-Meta.items c.in-Meta.is), tt)

pub mark_each-mark_term-requires : goal.mark_each-mark_term-requires
mark_each-mark_term-requires t c =
    (omega (arith, weight_in_item c.args.items.now c.as_slice-item-items.result.now c.loop-item.item-index c.item-item.result c.as_slice-item-items.ensures c.loop-item-test.true c.item-item.is), tt)

pub mark_each-loop-item-init : goal.mark_each-loop-item-init
mark_each-loop-item-init t c = λ z inside. refl

pub mark_each-loop-item-preserved : goal.mark_each-loop-item-preserved
mark_each-loop-item-preserved t c =
    left_marked c.args.marks.now c.loop-item.marks c.mark_term.new.marks c.as_slice-item-items.result.now c.loop-item.item-index c.item-item.result c.loop-item-test.true c.item-item.is c.loop-item.auto.marks
    c.loop-item.invariant c.mark_term.ensures

pub mark_each-returns : goal.mark_each-returns
mark_each-returns t c =
    subst (λ (xs : List Term). Marks c.args.marks.now c.loop-item.marks (λ z. occurs_in_any z (tms xs))) c.as_slice-item-items.ensures
    (all_marked c.args.marks.now c.loop-item.marks c.as_slice-item-items.result.now c.loop-item.item-index c.loop-item-test.false c.loop-item.invariant)

pub mark_term-returns-in-Meta : goal.mark_term-returns-in-Meta
mark_term-returns-in-Meta t c =
    marks_as c.args.marks.now c.mark_each.new.marks (λ z. c.in-Meta.number == z || occurs_in_any z (tms c.in-Meta.items)) (λ z. occurs_in z (tm c.args.term.now))
    (λ z. ap (occurs_in z) (tm_of_meta c.args.term.now c.in-Meta.number c.in-Meta.items c.in-Meta.is))
    (marks_both c.args.marks.now c.mark.new.marks c.mark_each.new.marks (λ z. c.in-Meta.number == z) (λ z. occurs_in_any z (tms c.in-Meta.items)) c.mark.auto.marks c.mark.ensures c.mark_each.ensures)

pub mark_term-returns-in-Lam : goal.mark_term-returns-in-Lam
mark_term-returns-in-Lam t c =
    marks_as c.args.marks.now c.mark_term.new.marks (λ z. occurs_in z (tm c.deref.result.now)) (λ z. occurs_in z (tm c.args.term.now))
    (λ z. ap (λ u. occurs_in z (tm u)) c.in-Lam.is ∙ ap (λ u. occurs_in z (tm u)) (sym c.deref.ensures)) c.mark_term.ensures

pub mark_term-returns-in-App : goal.mark_term-returns-in-App
mark_term-returns-in-App t c =
    marks_as c.args.marks.now c.mark_term-in-App-2.new.marks (λ z. occurs_in z (tm c.deref-in-App.result.now) || occurs_in z (tm c.deref-in-App-2.result.now)) (λ z. occurs_in z (tm c.args.term.now))
    (λ z. ap (λ u. occurs_in z (tm u)) c.in-App.is
    ∙ ap₂ (λ u v. occurs_in z (tm u) || occurs_in z (tm v)) (sym c.deref-in-App.ensures) (sym c.deref-in-App-2.ensures))
    (marks_both c.args.marks.now c.mark_term-in-App.new.marks c.mark_term-in-App-2.new.marks (λ z. occurs_in z (tm c.deref-in-App.result.now)) (λ z. occurs_in z (tm c.deref-in-App-2.result.now))
    c.mark_term-in-App.auto.marks c.mark_term-in-App.ensures c.mark_term-in-App-2.ensures)
