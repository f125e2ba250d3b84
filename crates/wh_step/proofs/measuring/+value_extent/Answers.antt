use Rattle.std.proofs.Common.{◌≡◌, ◌+◌, sym, ◌∙◌, ap, subst, arith}
use Rattle.std.specs.Prelude.{Err}
use Rattle.wh_types.specs.Erase.{ty}
use Rattle.wh_terms.specs.Tree.{app, lam, free, bound, fun}
use Rattle.wh_terms.specs.Erase.{tm, tms}
use Rattle.wh_terms.specs.Entries.{bodies}
use Rattle.wh_terms.specs.Valued.{valued, all_valued}
use Rattle.wh_terms.proofs.TermLemmas.{weight_in_meta, weight_in_item}
use Rattle.wh_terms.proofs.ValuedLaws.{covers_meta, covers_item}
use Rattle.wh_step.specs.Extents.{AllKnown}
use Rattle.wh_step.proofs.MeasuringLemmas.{terms_meta, terms_item, known_push, act_value}
use Rattle.wh_step.proofs.ExtentLemmas.{passed_on, past_function, measures_same, known_extent}
use Rattle.wh_step.proofs.measuring.+value_extent.Goals as goal

pub value_extent-value_extents-requires : goal.value_extent-value_extents-requires
value_extent-value_extents-requires n c = (
  omega (arith, weight_in_meta c.args.term.now c.in-Meta.meta c.in-Meta.items c.in-Meta.is),
  (covers_meta c.args.by.now c.args.term.now c.in-Meta.meta c.in-Meta.items c.in-Meta.is c.requires.covered, terms_meta c.args.by.now c.args.term.now c.in-Meta.meta c.in-Meta.items c.in-Meta.is c.requires.terms),
)

pub value_extents-value_extent-requires : goal.value_extents-value_extent-requires
value_extents-value_extent-requires n c = (
  omega (arith, weight_in_item c.args.items.now c.as_slice-item-items.result.now c.loop-item.item-index c.item-item.result c.as_slice-item-items.ensures c.loop-item-test.true c.item-item.is),
  (
    covers_item c.args.by.now c.args.items.now c.as_slice-item-items.result.now c.loop-item.item-index c.item-item.result c.as_slice-item-items.ensures c.loop-item-test.true c.item-item.is c.requires.covered,
    terms_item c.args.by.now c.args.items.now c.as_slice-item-items.result.now c.loop-item.item-index c.item-item.result c.as_slice-item-items.ensures c.loop-item-test.true c.item-item.is c.requires.terms,
  ),
)

pub value_extent-returns-in-Bound : goal.value_extent-returns-in-Bound
value_extent-returns-in-Bound n c k =
    known_extent (valued k (bodies c.args.by.now) (tm c.args.term.now)) (bound c.in-Bound.field-0) c.leaf.result (ap (λ t. valued k (bodies c.args.by.now) (tm t)) c.in-Bound.is) (c.leaf.ensures.bound c.in-Bound.field-0)

pub value_extent-returns-in-Free : goal.value_extent-returns-in-Free
value_extent-returns-in-Free n c k =
    known_extent (valued k (bodies c.args.by.now) (tm c.args.term.now)) (free c.in-Free.field-0 (ty c.in-Free.field-1)) c.leaf-in-Free.result (ap (λ t. valued k (bodies c.args.by.now) (tm t)) c.in-Free.is)
    (c.leaf-in-Free.ensures.free c.in-Free.field-0 (ty c.in-Free.field-1))

pub value_extent-returns-in-Fun : goal.value_extent-returns-in-Fun
value_extent-returns-in-Fun n c k =
    known_extent (valued k (bodies c.args.by.now) (tm c.args.term.now)) (fun c.in-Fun.field-0) c.leaf-in-Fun.result (ap (λ t. valued k (bodies c.args.by.now) (tm t)) c.in-Fun.is) (c.leaf-in-Fun.ensures.fun c.in-Fun.field-0)

pub value_extent-returns-in-Some : goal.value_extent-returns-in-Some
value_extent-returns-in-Some n c k =
    let bs = c.args.by.now in
    let args = all_valued k (bodies bs) (tms c.in-Meta.items) in
    measures_same (valued k (bodies bs) (tm c.args.term.now)) _ c.extent_of.result (act_value k bs c.args.term.now c.in-Meta.meta c.in-Meta.items c.in-Some.body.now c.in-Meta.is c.in-Some.ensures.1)
    (c.extent_of.ensures args k (subst (AllKnown args) (sym c.as_slice.ensures.value) (c.in_ok-values-in-Meta.ensures k)))

pub value_extent-returns-in-Lam : goal.value_extent-returns-in-Lam
value_extent-returns-in-Lam n c k =
    let g = bodies c.args.by.now in
    let w = tm c.args.term.now in
    let a = ty c.in-Lam.field-0 in
    let t = tm c.deref.result.now in
    let is : w ≡ lam a t = ap tm c.in-Lam.is ∙ ap (λ b. lam a (tm b)) (sym c.deref.ensures) in
    measures_same (valued k g w) (lam a (valued (k + 1) g t)) c.abstracted.result (ap (valued k g) is) (c.abstracted.ensures a (valued (k + 1) g t) (c.value_extent.ensures (k + 1)))

pub value_extent-returns-in_err-front-in-App : goal.value_extent-returns-in_err-front-in-App
value_extent-returns-in_err-front-in-App n c k =
    let g = bodies c.args.by.now in
    let w = tm c.args.term.now in
    let f = tm c.deref-in-App.result.now in
    let x = tm c.in-App.argument.value in
    let past = c.in_err-front-in-App.field-0.0 in
    let is : w ≡ app f x = ap tm c.in-App.is ∙ ap (λ h. app (tm h) x) (sym c.deref-in-App.ensures) in
    passed_on (valued k g w) past c.from_residual-in_err-front-in-App.result c.from_residual-in_err-front-in-App.ensures.1
    (measures_same (valued k g w) (app (valued k g f) (valued k g x)) (Err past) (ap (valued k g) is) (past_function (valued k g f) (valued k g x) past (c.in_err-front-in-App.ensures k)))

pub value_extent-returns-in_ok-front-in-App : goal.value_extent-returns-in_ok-front-in-App
value_extent-returns-in_ok-front-in-App n c k =
    let g = bodies c.args.by.now in
    let w = tm c.args.term.now in
    let f = tm c.deref-in-App.result.now in
    let x = tm c.deref-in-App-2.result.now in
    let is : w ≡ app f x = ap tm c.in-App.is ∙ cc (ap tm c.deref-in-App.ensures, ap tm c.deref-in-App-2.ensures) in
    measures_same (valued k g w) (app (valued k g f) (valued k g x)) c.applied.result (ap (valued k g) is)
    (c.applied.ensures (valued k g f) (valued k g x) (c.in_ok-front-in-App.ensures k) (c.value_extent-in-App-2.ensures k))

pub value_extents-loop-item-preserved : goal.value_extents-loop-item-preserved
value_extents-loop-item-preserved n c k =
    let bs = c.args.by.now in
    let item = c.item-item.result in
    known_push k bs c.as_slice-item-items.result.now c.loop-item.values.items c.push.new.self.items c.loop-item.item-index c.in_ok-known.field-0 item (c.loop-item.invariant k) c.in_ok-push.ensures.items
    (c.in_ok-known.ensures (valued k (bodies bs) (tm item)) (c.value_extent.ensures k)) c.loop-item-test.true c.item-item.is
