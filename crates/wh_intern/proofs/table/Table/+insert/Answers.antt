use Rattle.std.proofs.Common.{ap, ap₂, sym, ◌∙◌, subst, arith}
use Rattle.std.proofs.lemmas.List.{take_all}
use Rattle.wh_types.specs.Erase.{ty}
use Rattle.wh_terms.specs.Tree as tree
use Rattle.wh_terms.specs.Erase.{tm, tms}
use Rattle.wh_terms.proofs.TermLemmas.{tm_of_meta, weight_in_meta, weight_in_item}
use Rattle.wh_intern.specs.TableTrees.{trees}
use Rattle.wh_intern.proofs.AddLaws.{lam_tree, grows_lam, below_lam, app_tree, grows_app, grows_app_front, below_app, number_of_tree, gathered_next, grows_meta, grows_meta_stop, Gathered}
use Rattle.wh_intern.proofs.table.Table.+insert.Goals as goal

pub insert-insert_meta-requires : goal.insert-insert_meta-requires
insert-insert_meta-requires t c =
    omega (arith, weight_in_meta c.args.term.now c.in-Meta.meta c.in-Meta.items c.in-Meta.is)

pub insert-put-requires-in-Lam : goal.insert-put-requires-in-Lam
insert-put-requires-in-Lam t c = below_lam _ _ _ c.in_ok-body-in-Lam.ensures.number

pub insert-returns-in_err-argument-in-App-clause-grows : goal.insert-returns-in_err-argument-in-App-clause-grows
insert-returns-in_err-argument-in-App-clause-grows t c =
    grows_app_front (trees c.args.self.now) (trees c.insert-in-App.new.self) (trees c.insert-in-App-2.new.self) (tm c.deref-in-App.result.now)
    (tm c.deref-in-App-2.result.now) (tm c.args.term.now)
    (ap tm c.in-App.is ∙ ap₂ tree.app (ap tm (sym c.deref-in-App.ensures)) (ap tm (sym c.deref-in-App-2.ensures)))
    c.insert-in-App.ensures.grows c.insert-in-App-2.ensures.grows

pub insert-put-requires-in-App : goal.insert-put-requires-in-App
insert-put-requires-in-App t c =
    below_app (trees c.insert-in-App.new.self) (trees c.insert-in-App-2.new.self) _ _ (tm c.deref-in-App.result.now) (tm c.deref-in-App-2.result.now)
    c.in_ok-function-in-App.ensures.number c.insert-in-App-2.ensures.grows c.in_ok-argument-in-App.ensures.number

pub insert-returns-in-Meta-clause-number : goal.insert-returns-in-Meta-clause-number
insert-returns-in-Meta-clause-number t c =
    number_of_tree c.insert_meta.result (trees c.insert_meta.new.self) _ (tm c.args.term.now)
    (sym (tm_of_meta c.args.term.now c.in-Meta.meta c.in-Meta.items c.in-Meta.is)) c.insert_meta.ensures.number

pub insert-returns-in-Meta-clause-grows : goal.insert-returns-in-Meta-clause-grows
insert-returns-in-Meta-clause-grows t c =
    rw (tm_of_meta c.args.term.now c.in-Meta.meta c.in-Meta.items c.in-Meta.is) c.insert_meta.ensures.grows

pub insert-returns-in_ok-kind-in-Lam-clause-number : goal.insert-returns-in_ok-kind-in-Lam-clause-number
insert-returns-in_ok-kind-in-Lam-clause-number t c =
    number_of_tree c.put-in-Lam.result (trees c.put-in-Lam.new.self) _ (tm c.args.term.now)
    (lam_tree (trees c.insert.new.self) (ty c.in_ok-kind-in-Lam.kind) c.in_ok-body-in-Lam.body (tm c.deref.result.now) (tm c.args.term.now)
    c.in_ok-body-in-Lam.ensures.number
    (ap tm c.in-Lam.is ∙ ap₂ tree.lam (sym c.in_ok-kind-in-Lam.ensures) (ap tm (sym c.deref.ensures)))) c.put-in-Lam.ensures.number

pub insert-returns-in_ok-kind-in-Lam-clause-grows : goal.insert-returns-in_ok-kind-in-Lam-clause-grows
insert-returns-in_ok-kind-in-Lam-clause-grows t c =
    grows_lam (trees c.args.self.now) (trees c.insert.new.self) (trees c.put-in-Lam.new.self) (ty c.in_ok-kind-in-Lam.kind) c.in_ok-body-in-Lam.body
    (tm c.deref.result.now) (tm c.args.term.now)
    (ap tm c.in-Lam.is ∙ ap₂ tree.lam (sym c.in_ok-kind-in-Lam.ensures) (ap tm (sym c.deref.ensures)))
    c.insert.ensures.grows c.in_ok-body-in-Lam.ensures.number c.put-in-Lam.ensures.adds

pub insert-returns-in_ok-argument-in-App-clause-number : goal.insert-returns-in_ok-argument-in-App-clause-number
insert-returns-in_ok-argument-in-App-clause-number t c =
    number_of_tree c.put-in-App.result (trees c.put-in-App.new.self) _ (tm c.args.term.now)
    (app_tree (trees c.insert-in-App.new.self) (trees c.insert-in-App-2.new.self) c.in_ok-function-in-App.function c.in_ok-argument-in-App.argument
    (tm c.deref-in-App.result.now) (tm c.deref-in-App-2.result.now) (tm c.args.term.now) c.in_ok-function-in-App.ensures.number
    c.insert-in-App-2.ensures.grows c.in_ok-argument-in-App.ensures.number
    (ap tm c.in-App.is ∙ ap₂ tree.app (ap tm (sym c.deref-in-App.ensures)) (ap tm (sym c.deref-in-App-2.ensures)))) c.put-in-App.ensures.number

pub insert-returns-in_ok-argument-in-App-clause-grows : goal.insert-returns-in_ok-argument-in-App-clause-grows
insert-returns-in_ok-argument-in-App-clause-grows t c =
    grows_app (trees c.args.self.now) (trees c.insert-in-App.new.self) (trees c.insert-in-App-2.new.self) (trees c.put-in-App.new.self)
    c.in_ok-function-in-App.function c.in_ok-argument-in-App.argument
    (tm c.deref-in-App.result.now) (tm c.deref-in-App-2.result.now) (tm c.args.term.now)
    (ap tm c.in-App.is ∙ ap₂ tree.app (ap tm (sym c.deref-in-App.ensures)) (ap tm (sym c.deref-in-App-2.ensures)))
    c.insert-in-App.ensures.grows c.in_ok-function-in-App.ensures.number c.insert-in-App-2.ensures.grows c.in_ok-argument-in-App.ensures.number
    c.put-in-App.ensures.adds

pub insert_meta-insert-requires : goal.insert_meta-insert-requires
insert_meta-insert-requires t c =
    omega (
      arith,
      weight_in_item c.args.items.now c.as_slice-item-items.result.now c.loop-item.item-index c.item-item.result
          c.as_slice-item-items.ensures c.loop-item-test.true c.item-item.is,
    )

pub insert_meta-returns-in_err-number-clause-grows : goal.insert_meta-returns-in_err-number-clause-grows
insert_meta-returns-in_err-number-clause-grows t c =
    grows_meta_stop (trees c.args.self.now) (trees c.loop-item.self) (trees c.insert.new.self) c.args.meta c.loop-item.numbers
    c.as_slice-item-items.result.now c.args.items.now c.loop-item.item-index c.item-item.result c.loop-item.invariant c.insert.ensures.grows
    c.loop-item-test.true c.item-item.is c.as_slice-item-items.ensures

pub insert_meta-returns-in_err-push-clause-grows : goal.insert_meta-returns-in_err-push-clause-grows
insert_meta-returns-in_err-push-clause-grows t c =
    grows_meta_stop (trees c.args.self.now) (trees c.loop-item.self) (trees c.insert.new.self) c.args.meta c.loop-item.numbers
    c.as_slice-item-items.result.now c.args.items.now c.loop-item.item-index c.item-item.result c.loop-item.invariant c.insert.ensures.grows
    c.loop-item-test.true c.item-item.is c.as_slice-item-items.ensures

pub insert_meta-loop-item-preserved : goal.insert_meta-loop-item-preserved
insert_meta-loop-item-preserved t c =
    gathered_next (trees c.args.self.now) (trees c.loop-item.self) (trees c.insert.new.self) c.loop-item.numbers c.push.new.self c.in_ok-number.number
    c.as_slice-item-items.result.now c.loop-item.item-index c.item-item.result c.loop-item.invariant c.insert.ensures.grows
    c.in_ok-number.ensures.number c.loop-item-test.true c.item-item.is c.in_ok-push.ensures.ok

pub insert_meta-returns-clause-grows : goal.insert_meta-returns-clause-grows
insert_meta-returns-clause-grows t c =
    let xs = c.as_slice-item-items.result.now in
    let whole = ap tms (take_all c.loop-item.item-index xs c.loop-item-test.false ∙ c.as_slice-item-items.ensures) in
    grows_meta (trees c.args.self.now) (trees c.loop-item.self) (trees c.put.new.self) c.args.meta c.loop-item.numbers (tms c.args.items.now)
    (subst (Gathered (trees c.args.self.now) (trees c.loop-item.self) c.loop-item.numbers) whole c.loop-item.invariant) c.put.ensures.adds
