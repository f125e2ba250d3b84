use Rattle.std.proofs.lemmas.Result.{IfOk-weaker}
use Rattle.wh_order_trees.specs.declared.tree.Tree.TheVariants.{Free}
use Rattle.std.proofs.Common.{ℕ, ◌+◌, List, subst, sym, ap, refl, ◌∙◌}
use Rattle.wh_types.specs.Erase.{ty}
use Rattle.wh_order_trees.specs.declared.tree.Tree.{Tree}
use Rattle.wh_order_trees.specs.Trees.{tree, IsHeadTree}
use Rattle.wh_order_trees.specs.TreeParts.{Over, AllOver}
use Rattle.wh_order.proofs.OpenLemmas.{opens, OpensAll, variable_opens, free_opens, meta_opens, meta_keeps, sym_opens, sym_keeps, mark_opens, mark_keeps, lam_opens, lam_keeps, apply_opens, apply_keeps, opens_next, opens_all, keeps_next}
use Rattle.wh_order.proofs.opened.+opening.Goals as goal

pub open_under-returns-in_ok-open_each-in-Meta-clause-same : goal.open_under-returns-in_ok-open_each-in-Meta-clause-same
open_under-returns-in_ok-open_each-in-Meta-clause-same t c =
    meta_opens c.args.number (ty c.args.kind.now) c.args.depth c.args.t.now c.in-Meta.meta c.in-Meta.own c.in_ok-own-in-Meta.own c.in-Meta.items c.in_ok-open_each-in-Meta.field-0 c.in-Meta.is c.in_ok-open_each-in-Meta.ensures.same

pub open_under-returns-in_ok-open_each-in-Meta-clause-over : goal.open_under-returns-in_ok-open_each-in-Meta-clause-over
open_under-returns-in_ok-open_each-in-Meta-clause-over t c =
    meta_keeps c.args.t.now c.in-Meta.meta c.in-Meta.own c.in_ok-own-in-Meta.own c.in-Meta.items c.in_ok-open_each-in-Meta.field-0 c.in-Meta.is c.in_ok-own-in-Meta.ensures c.in_ok-open_each-in-Meta.ensures.over

pub open_under-returns-in_ok-open_each-in-Sym-clause-same : goal.open_under-returns-in_ok-open_each-in-Sym-clause-same
open_under-returns-in_ok-open_each-in-Sym-clause-same t c =
    sym_opens c.args.number (ty c.args.kind.now) c.args.depth c.args.t.now c.in-Sym.symbol c.in-Sym.items c.in_ok-open_each-in-Sym.field-0 c.in-Sym.is c.in_ok-open_each-in-Sym.ensures.same

pub open_under-returns-in_ok-open_each-in-Sym-clause-over : goal.open_under-returns-in_ok-open_each-in-Sym-clause-over
open_under-returns-in_ok-open_each-in-Sym-clause-over t c =
    sym_keeps c.args.number (ty c.args.kind.now) c.args.depth c.args.t.now c.in-Sym.symbol c.in-Sym.items c.in_ok-open_each-in-Sym.field-0 c.in-Sym.is c.in_ok-open_each-in-Sym.ensures.same c.in_ok-open_each-in-Sym.ensures.over

pub open_under-returns-in_ok-open_each-in-Mark-clause-same : goal.open_under-returns-in_ok-open_each-in-Mark-clause-same
open_under-returns-in_ok-open_each-in-Mark-clause-same t c =
    mark_opens c.args.number (ty c.args.kind.now) c.args.depth c.args.t.now c.in-Mark.symbol c.in-Mark.items c.in_ok-open_each-in-Mark.field-0 c.in-Mark.is c.in_ok-open_each-in-Mark.ensures.same

pub open_under-returns-in_ok-open_each-in-Mark-clause-over : goal.open_under-returns-in_ok-open_each-in-Mark-clause-over
open_under-returns-in_ok-open_each-in-Mark-clause-over t c =
    mark_keeps c.args.number (ty c.args.kind.now) c.args.depth c.args.t.now c.in-Mark.symbol c.in-Mark.items c.in_ok-open_each-in-Mark.field-0 c.in-Mark.is c.in_ok-open_each-in-Mark.ensures.same c.in_ok-open_each-in-Mark.ensures.over

pub open_under-returns-in_ok-new-in-Lam-clause-same : goal.open_under-returns-in_ok-new-in-Lam-clause-same
open_under-returns-in_ok-new-in-Lam-clause-same t c =
    lam_opens c.args.number (ty c.args.kind.now) c.args.depth c.args.t.now c.in-Lam.own c.in_ok-own-in-Lam.own c.in-Lam.body c.in_ok-new-in-Lam.field-0 c.in-Lam.is c.in_ok-own-in-Lam.ensures
    (λ n. ap (tree n) c.in_ok-new-in-Lam.ensures.ok ∙ c.in_ok-body-in-Lam.ensures.same n
    ∙ ap (λ (k : ℕ). opens c.args.number (ty c.args.kind.now) k (tree n c.deref.result.now)) c.in_ok-sum-in-Lam.ensures
    ∙ ap (λ (u : Tree). opens c.args.number (ty c.args.kind.now) (c.args.depth + 1) (tree n u)) c.deref.ensures)

pub open_under-returns-in_ok-new-in-Lam-clause-over : goal.open_under-returns-in_ok-new-in-Lam-clause-over
open_under-returns-in_ok-new-in-Lam-clause-over t c =
    lam_keeps c.args.t.now c.in-Lam.own c.in_ok-own-in-Lam.own c.in-Lam.body c.in_ok-new-in-Lam.field-0 c.in-Lam.is (λ n w o. subst (Over n w) (sym c.in_ok-new-in-Lam.ensures.ok) (c.in_ok-body-in-Lam.ensures.over n w (subst (Over n w) (sym c.deref.ensures) o)))

pub open_under-returns-in_ok-new-in-Apply-clause-same : goal.open_under-returns-in_ok-new-in-Apply-clause-same
open_under-returns-in_ok-new-in-Apply-clause-same t c =
    apply_opens c.args.number (ty c.args.kind.now) c.args.depth c.args.t.now c.in-Apply.head c.in_ok-new-in-Apply.field-0 c.in-Apply.items c.in_ok-items-in-Apply.items c.in-Apply.is (λ n. ap (tree n) c.in_ok-new-in-Apply.ensures.ok ∙ c.in_ok-head-in-Apply.ensures.same n ∙ ap (λ (u : Tree). opens c.args.number (ty c.args.kind.now) c.args.depth (tree n u)) c.deref-in-Apply.ensures) c.in_ok-items-in-Apply.ensures.same

pub open_under-returns-in_ok-new-in-Apply-clause-over : goal.open_under-returns-in_ok-new-in-Apply-clause-over
open_under-returns-in_ok-new-in-Apply-clause-over t c =
    apply_keeps c.args.number (ty c.args.kind.now) c.args.depth c.args.t.now c.in-Apply.head c.in_ok-new-in-Apply.field-0 c.in-Apply.items c.in_ok-items-in-Apply.items c.in-Apply.is c.in_ok-items-in-Apply.ensures.same (λ h. subst IsHeadTree (sym c.in_ok-new-in-Apply.ensures.ok) (c.in_ok-head-in-Apply.ensures.head (subst IsHeadTree (sym c.deref-in-Apply.ensures) h))) (λ n w o. subst (Over n w) (sym c.in_ok-new-in-Apply.ensures.ok) (c.in_ok-head-in-Apply.ensures.over n w (subst (Over n w) (sym c.deref-in-Apply.ensures) o))) c.in_ok-items-in-Apply.ensures.over

pub open_under-returns-in-Bound-clause-same : goal.open_under-returns-in-Bound-clause-same
open_under-returns-in-Bound-clause-same t c =
    IfOk-weaker c.open_variable.result _ _
    (λ r h n. variable_opens c.args.number (ty c.args.kind.now) c.args.depth c.args.t.now r c.in-Bound.inner (λ n. ap (tree n) c.in-Bound.is) h n) c.open_variable.ensures.same

pub open_under-returns-in_ok-copy-in-Free-clause-same : goal.open_under-returns-in_ok-copy-in-Free-clause-same
open_under-returns-in_ok-copy-in-Free-clause-same t c =
    free_opens c.args.number (ty c.args.kind.now) c.args.depth c.args.t.now (Free c.in-Free.x c.in_ok-copy-in-Free.field-0) c.in-Free.x (ty c.in-Free.own) (ty c.in_ok-copy-in-Free.field-0)
    (λ n. ap (tree n) c.in-Free.is) (λ n. refl) c.in_ok-copy-in-Free.ensures

pub open_each-loop-item-preserved : goal.open_each-loop-item-preserved
open_each-loop-item-preserved t c = (
  opens_next c.args.number (ty c.args.kind.now) c.args.depth c.as_slice-item-items.result.now c.loop-item.results c.push.new.self c.loop-item.item-index c.item-item.result c.in_ok-open_under.field-0
      c.loop-item.invariant.0 c.in_ok-push.ensures.ok c.in_ok-open_under.ensures.same c.loop-item-test.true c.item-item.is,
  keeps_next c.as_slice-item-items.result.now c.loop-item.results c.push.new.self c.loop-item.item-index c.item-item.result c.in_ok-open_under.field-0
      c.loop-item.invariant.1 c.in_ok-push.ensures.ok c.in_ok-open_under.ensures.over c.loop-item-test.true c.item-item.is,
)

pub open_each-returns-clause-same : goal.open_each-returns-clause-same
open_each-returns-clause-same t c =
    subst (λ (ts : List Tree). OpensAll c.args.number (ty c.args.kind.now) c.args.depth ts c.loop-item.results) c.as_slice-item-items.ensures
    (opens_all c.args.number (ty c.args.kind.now) c.args.depth c.as_slice-item-items.result.now c.loop-item.results c.loop-item.item-index c.loop-item.invariant.0 c.loop-item-test.false)

pub open_each-returns-clause-over : goal.open_each-returns-clause-over
open_each-returns-clause-over t c n w o = c.loop-item.invariant.1 n w (subst (AllOver n w) (sym c.as_slice-item-items.ensures) o)
