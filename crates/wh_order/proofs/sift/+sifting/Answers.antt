use Rattle.std.proofs.Common.{refl, ap, reverse}
use Rattle.std.proofs.lemmas.Result.{IfOk-weaker}
use Rattle.wh_types.specs.Erase.{ty}
use Rattle.wh_terms.specs.Tree.{free, lam}
use Rattle.wh_terms.specs.Erase.{declared_metas, tm}
use Rattle.wh_terms.proofs.TermLemmas.{tm_of_meta}
use Rattle.wh_order_node.specs.FilteringView.{filtering_data}
use Rattle.wh_order_trees.specs.declared.tree.Tree.{Lam}
use Rattle.wh_order_trees.specs.declared.tree.Tree.TheVariants.{Bound, Free}
use Rattle.wh_order_trees.specs.Trees.{tree}
use Rattle.wh_order.proofs.SiftLemmas.{bound_sifted, free_sifted, lam_sifted, meta_sifted, app_sifted, fun_sifted, inner_sifted, behind_sifted, sifted_next, sifted_all}
use Rattle.wh_order.proofs.sift.+sifting.Goals as goal

pub sift_before-returns-in-Bound : goal.sift_before-returns-in-Bound
sift_before-returns-in-Bound t c =
    IfOk-weaker c.applied.result _ _
    (λ u is. bound_sifted (filtering_data c.args.filters.now) (declared_metas c.args.metas.now) (tm c.args.term.now) c.in-Bound.number (reverse c.args.behind.items) (Bound c.in-Bound.number) u
    (ap tm c.in-Bound.is) (λ n. refl) tt (λ n w. tt) is) c.applied.ensures

pub sift_before-returns-in_ok-kind-in-Free : goal.sift_before-returns-in_ok-kind-in-Free
sift_before-returns-in_ok-kind-in-Free t c =
    IfOk-weaker c.applied-in-Free.result _ _
    (λ u is. free_sifted (filtering_data c.args.filters.now) (declared_metas c.args.metas.now) (tm c.args.term.now) c.in-Free.number (ty c.in-Free.kind) (reverse c.args.behind.items)
    (Free c.in-Free.number c.in_ok-kind-in-Free.kind) u (ap tm c.in-Free.is) (λ n. ap (λ a. free c.in-Free.number a) c.in_ok-kind-in-Free.ensures) tt (λ n w. tt) is) c.applied-in-Free.ensures

pub sift_before-returns-in_ok-items-in-Meta : goal.sift_before-returns-in_ok-items-in-Meta
sift_before-returns-in_ok-items-in-Meta t c =
    IfOk-weaker c.applied-in-Meta.result _ _
    (λ u is. meta_sifted (filtering_data c.args.filters.now) (declared_metas c.args.metas.now) (tm c.args.term.now) c.in-Meta.meta c.in-Meta.items (reverse c.args.behind.items)
    c.in_ok-kind-in-Meta.kind c.in_ok-items-in-Meta.items u (tm_of_meta c.args.term.now c.in-Meta.meta c.in-Meta.items c.in-Meta.is) c.in_ok-kind-in-Meta.ensures c.in_ok-items-in-Meta.ensures is)
    c.applied-in-Meta.ensures

pub sift_before-returns-in_ok-new-in-Lam : goal.sift_before-returns-in_ok-new-in-Lam
sift_before-returns-in_ok-new-in-Lam t c =
    IfOk-weaker c.applied-in-Lam.result _ _
    (λ u is. lam_sifted (filtering_data c.args.filters.now) (declared_metas c.args.metas.now) (tm c.args.term.now) (ty c.in-Lam.kind) (tm c.in-Lam.body.value) (reverse c.args.behind.items)
    (Lam c.in_ok-kind-in-Lam.kind c.in_ok-new-in-Lam.field-0) c.in_ok-new-in-Lam.field-0.value u (ap tm c.in-Lam.is) (λ n. ap (λ a. lam a (tree n c.in_ok-new-in-Lam.field-0.value)) c.in_ok-kind-in-Lam.ensures)
    tt (λ n w over. over)
    (inner_sifted (filtering_data c.args.filters.now) (declared_metas c.args.metas.now) c.deref.result.now c.in-Lam.body.value c.new.result.items c.in_ok-body-in-Lam.body c.in_ok-new-in-Lam.field-0.value
    c.deref.ensures c.new.ensures.items c.in_ok-new-in-Lam.ensures.ok c.in_ok-body-in-Lam.ensures) is) c.applied-in-Lam.ensures

pub sift_before-returns-in_ok-push-in-App : goal.sift_before-returns-in_ok-push-in-App
sift_before-returns-in_ok-push-in-App t c =
    IfOk-weaker c.sift_before-in-App-2.result _ _
    (λ u h. app_sifted (filtering_data c.args.filters.now) (declared_metas c.args.metas.now) (tm c.args.term.now) (tm c.in-App.function.value) (tm c.in-App.argument.value) (reverse c.args.behind.items)
    c.in_ok-last-in-App.last u (ap tm c.in-App.is)
    (inner_sifted (filtering_data c.args.filters.now) (declared_metas c.args.metas.now) c.deref-in-App.result.now c.in-App.argument.value c.new-in-App.result.items c.in_ok-last-in-App.last c.in_ok-last-in-App.last
    c.deref-in-App.ensures c.new-in-App.ensures.items refl c.in_ok-last-in-App.ensures)
    (behind_sifted (filtering_data c.args.filters.now) (declared_metas c.args.metas.now) c.deref-in-App-2.result.now c.in-App.function.value c.args.behind.items c.push.new.self.items c.in_ok-last-in-App.last u
    c.deref-in-App-2.ensures c.in_ok-push-in-App.ensures.items h)) c.sift_before-in-App-2.ensures

pub sift_before-returns-in-Fun : goal.sift_before-returns-in-Fun
sift_before-returns-in-Fun t c =
    IfOk-weaker c.filtered_symbol.result _ _
    (λ u behind. fun_sifted (filtering_data c.args.filters.now) (declared_metas c.args.metas.now) (tm c.args.term.now) c.in-Fun.symbol (reverse c.args.behind.items) u (ap tm c.in-Fun.is) behind)
    c.filtered_symbol.ensures

pub sift_each-loop-item-preserved : goal.sift_each-loop-item-preserved
sift_each-loop-item-preserved t c =
    sifted_next (filtering_data c.args.filters.now) (declared_metas c.args.metas.now) c.as_slice-item-items.result.now c.loop-item.item-index c.item-item.result c.loop-item.results c.push.new.self
    c.in_ok-sift_before.field-0 c.loop-item.invariant
    (inner_sifted (filtering_data c.args.filters.now) (declared_metas c.args.metas.now) c.item-item.result c.item-item.result c.new.result.items c.in_ok-sift_before.field-0 c.in_ok-sift_before.field-0 refl
    c.new.ensures.items refl c.in_ok-sift_before.ensures)
    c.in_ok-push.ensures.ok c.loop-item-test.true c.item-item.is

pub sift_each-returns : goal.sift_each-returns
sift_each-returns t c =
    sifted_all (filtering_data c.args.filters.now) (declared_metas c.args.metas.now) c.as_slice-item-items.result.now c.args.items.now c.loop-item.item-index c.loop-item.results c.as_slice-item-items.ensures
    c.loop-item-test.false c.loop-item.invariant
