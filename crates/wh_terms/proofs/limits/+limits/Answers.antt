use Rattle.std.proofs.Common.{List, Option, ℕ, subst, sym, arith}
use Rattle.wh_terms.specs.Tree.{Tm}
use Rattle.wh_terms.specs.Budget.{AllKeep, Keeps, Left}
use Rattle.wh_terms.specs.Measures.{size, sizes}
use Rattle.wh_terms.specs.Erase.{tms}
use Rattle.wh_terms.specs.declared.term.Term.{Term}
use Rattle.wh_terms.proofs.TermLemmas.{tm_of_meta}
use Rattle.wh_terms.proofs.LimitLemmas.{left_meta, keep_next, keep_here}
use Rattle.wh_terms.proofs.limits.+limits.Goals as goal

pub spend-returns-in-Meta : goal.spend-returns-in-Meta
spend-returns-in-Meta t c =
    let e = tm_of_meta c.args.t.now c.in-Meta.field-0 c.in-Meta.items c.in-Meta.is in
    subst (λ (u : Tm). Left c.args.room (size u) (Keeps c.args.low c.args.room u) c.spend_all.result) (sym e)
    (left_meta c.args.low c.args.room c.in_ok-rest.rest c.in-Meta.field-0 (tms c.in-Meta.items) (omega (arith, c.in_ok-rest.ensures)) c.spend_all.result c.spend_all.ensures)

pub spend_all-loop-item-preserved : goal.spend_all-loop-item-preserved
spend_all-loop-item-preserved t c =
    keep_next c.args.low c.args.room c.loop-item.left c.in_ok-checked_sub.field-0 c.in_ok-left.left c.as_slice-item-items.result.now c.loop-item.item-index c.item-item.result
    c.loop-item-test.true c.item-item.is (omega (arith, c.in_ok-checked_sub.ensures)) c.loop-item.invariant.0 c.loop-item.invariant.1 c.in_ok-left.ensures.0 c.in_ok-left.ensures.1

pub spend_all-returns-in_err-left : goal.spend_all-returns-in_err-left
spend_all-returns-in_err-left t c =
    let xs = c.as_slice-item-items.result.now in
    let breaks = λ (all : AllKeep c.args.low c.args.room (tms c.args.items.now)). c.in_err-left.ensures (keep_here c.args.low c.in_ok-checked_sub.field-0 c.args.room c.loop-item.left
    xs c.loop-item.item-index c.item-item.result c.loop-item-test.true c.item-item.is (omega (arith, c.in_ok-checked_sub.ensures)) c.loop-item.invariant.1
    (subst (λ (us : List Term). AllKeep c.args.low c.args.room (tms us)) (sym c.as_slice-item-items.ensures) all)) in
    subst (λ (answer : Option ℕ). Left c.args.room (sizes (tms c.args.items.now)) (AllKeep c.args.low c.args.room (tms c.args.items.now)) answer)
    (sym c.from_residual-in_err-left.ensures) breaks
