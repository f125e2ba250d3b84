use Rattle.std.proofs.Common.{◌≡◌, List, true, false, Ok, Err, ap, ap₂, sym, ◌∙◌, subst, arith}
use Rattle.std.proofs.lemmas.List.{nil_from_length}
use Rattle.wh_types.specs.Erase.{ty}
use Rattle.wh_types.specs.declared.want.Or.TheVariants.{Because}
use Rattle.wh_terms.specs.Tree.{lam, app}
use Rattle.wh_terms.specs.Erase.{tm}
use Rattle.wh_text.specs.Erase.{rtm, rty, rtms, rbinder}
use Rattle.wh_text.specs.RawTree.{RTm, RTms, lam as raw_lam, spine}
use Rattle.wh_text.specs.declared.raw.RawTerm.{RawTerm}
use Rattle.wh_text.proofs.RawLemmas.{rtm_of_meta, rtm_of_spine}
use Rattle.wh_system_parts.specs.declared.fault.SystemFault.TheVariants.{NotPattern}
use Rattle.wh_system_parts.proofs.RawTerms.{weight, weights, weight_in_spine}
use Rattle.wh_system_resolve.specs.Form.{TellsForm}
use Rattle.wh_system_resolve.proofs.MeantParts.{rtms_last, weights_last}
use Rattle.wh_system_resolve.proofs.FormLemmas.{meta_form, lam_form, no_lam_form, head_form, last_form, last_form_fails, no_app_form}
use Rattle.wh_system_resolve.proofs.form.+form.Goals as goal

pub check_form-check_applied-requires : goal.check_form-check_applied-requires
check_form-check_applied-requires t c = (
  omega (arith, weight_in_spine c.args.raw.now c.in-Spine.head c.in-Spine.items c.in-Spine.at c.in-Spine.is, ap (λ h. weight (rtm h)) c.deref-in-Spine.ensures, ap (λ xs. weights (rtms xs)) c.as_slice.ensures),
  tt,
)

pub check_applied-check_applied-requires : goal.check_applied-check_applied-requires
check_applied-check_applied-requires t c = (omega (arith, weights_last c.args.items.now c.in-Some.front.now c.in-Some.last.now c.in-Some.ensures.cases.0), tt)

pub check_applied-check_form-requires : goal.check_applied-check_form-requires
check_applied-check_form-requires t c = (omega (arith, weights_last c.args.items.now c.in-Some.front.now c.in-Some.last.now c.in-Some.ensures.cases.0), tt)

pub check_form-returns-then-branch : goal.check_form-returns-then-branch
check_form-returns-then-branch t c =
    subst (λ (r : RTm). TellsForm (tm c.args.term.now) r (Ok tt)) (sym (rtm_of_meta c.args.raw.now c.in-Meta.field-0 c.in-Meta.items c.in-Meta.at c.in-Meta.is))
    (meta_form (tm c.args.term.now) c.in-Meta.field-0 (rtms c.in-Meta.items) c.in-Meta.at true (sym c.in_ok-has_distinct-in-Meta.ensures ∙ c.if-branch.true))

pub check_form-returns-else-branch : goal.check_form-returns-else-branch
check_form-returns-else-branch t c =
    subst (λ (r : RTm). TellsForm (tm c.args.term.now) r (Err (Because (NotPattern c.in-Meta.at)))) (sym (rtm_of_meta c.args.raw.now c.in-Meta.field-0 c.in-Meta.items c.in-Meta.at c.in-Meta.is))
    (meta_form (tm c.args.term.now) c.in-Meta.field-0 (rtms c.in-Meta.items) c.in-Meta.at false (sym c.in_ok-has_distinct-in-Meta.ensures ∙ c.if-branch.false))

pub check_form-returns-in_default : goal.check_form-returns-in_default
check_form-returns-in_default t c =
    subst (λ (r : RTm). TellsForm (tm c.args.term.now) r (Ok tt)) (sym (ap rtm c.in-Lam.is))
    (no_lam_form c.args.term.now (rbinder c.in-Lam.field-0) (rty c.in-Lam.field-1.value) (rtm c.in-Lam.inner.value) c.in-Lam.field-3 (Ok tt) c.in_default.not-Lam)

pub check_form-returns-in-Lam-term : goal.check_form-returns-in-Lam-term
check_form-returns-in-Lam-term t c =
    let x = rbinder c.in-Lam.field-0 in
    let a = rty c.in-Lam.field-1.value in
    let inner = c.deref-in-Lam.result.now in
    let body = c.deref.result.now in
    let raw : rtm c.args.raw.now ≡ raw_lam x a (rtm inner) c.in-Lam.field-3 = ap rtm c.in-Lam.is ∙ ap (λ r. raw_lam x a (rtm r) c.in-Lam.field-3) (sym c.deref-in-Lam.ensures) in
    let is : tm c.args.term.now ≡ lam (ty c.in-Lam-term.field-0) (tm body) = ap tm c.in-Lam-term.is ∙ ap (λ u. lam (ty c.in-Lam-term.field-0) (tm u)) (sym c.deref.ensures) in
    subst (λ (r : RTm). TellsForm (tm c.args.term.now) r c.check_form.result) (sym raw)
    (lam_form (tm c.args.term.now) (tm body) (ty c.in-Lam-term.field-0) x a (rtm inner) c.in-Lam.field-3 c.check_form.result is c.check_form.ensures)

pub check_form-returns-in-Spine : goal.check_form-returns-in-Spine
check_form-returns-in-Spine t c =
    let raw : rtm c.args.raw.now ≡ spine (rtm c.deref-in-Spine.result.now) (rtms c.as_slice.result.now) c.in-Spine.at =
    rtm_of_spine c.args.raw.now c.in-Spine.head c.in-Spine.items c.in-Spine.at c.in-Spine.is
    ∙ ap₂ (λ h xs. spine (rtm h) (rtms xs) c.in-Spine.at) (sym c.deref-in-Spine.ensures) (sym c.as_slice.ensures) in
    subst (λ (r : RTm). TellsForm (tm c.args.term.now) r c.check_applied.result) (sym raw) c.check_applied.ensures

pub check_applied-returns-then-may_head : goal.check_applied-returns-then-may_head
check_applied-returns-then-may_head t c =
    subst (λ (xs : List RawTerm). TellsForm (tm c.args.term.now) (spine (rtm c.args.head.now) (rtms xs) c.args.at) (Ok tt)) (sym (nil_from_length c.args.items.now c.in_default.ensures.cases))
    (head_form (tm c.args.term.now) (rtm c.args.head.now) c.args.at true (sym c.may_head.ensures ∙ c.if-may_head.true))

pub check_applied-returns-in_default : goal.check_applied-returns-in_default
check_applied-returns-in_default t c =
    subst (λ (xs : List RawTerm). TellsForm (tm c.args.term.now) (spine (rtm c.args.head.now) (rtms xs) c.args.at) (Err (Because (NotPattern c.args.at))))
    (sym (nil_from_length c.args.items.now c.in_default.ensures.cases))
    (head_form (tm c.args.term.now) (rtm c.args.head.now) c.args.at false (sym c.may_head.ensures ∙ c.if-may_head.false))

pub check_applied-returns-in_default-term : goal.check_applied-returns-in_default-term
check_applied-returns-in_default-term t c =
    subst (λ (rs : RTms). TellsForm (tm c.args.term.now) (spine (rtm c.args.head.now) rs c.args.at) (Ok tt)) (sym (rtms_last c.args.items.now c.in-Some.front.now c.in-Some.last.now c.in-Some.ensures.cases.0))
    (no_app_form c.args.term.now (rtm c.args.head.now) (rtms c.in-Some.front.now) (rtm c.in-Some.last.now) c.args.at (Ok tt) c.in_default-term.not-App)

pub check_applied-returns-in_err-check_applied : goal.check_applied-returns-in_err-check_applied
check_applied-returns-in_err-check_applied t c =
    let f = tm c.deref.result.now in
    let a = tm c.in-App.argument.value in
    let is : tm c.args.term.now ≡ app f a = ap tm c.in-App.is ∙ ap (λ u. app (tm u) a) (sym c.deref.ensures) in
    let e = c.in_err-check_applied.field-0.0 in
    subst (λ u. TellsForm u (spine (rtm c.args.head.now) (rtms c.args.items.now) c.args.at) c.from_residual.result) (sym is)
    (subst (λ (rs : RTms). TellsForm (app f a) (spine (rtm c.args.head.now) rs c.args.at) c.from_residual.result) (sym (rtms_last c.args.items.now c.in-Some.front.now c.in-Some.last.now c.in-Some.ensures.cases.0))
    (last_form_fails f a (rtm c.args.head.now) (rtms c.in-Some.front.now) (rtm c.in-Some.last.now) c.args.at e c.from_residual.result c.from_residual.ensures.1 c.in_err-check_applied.ensures))

pub check_applied-returns : goal.check_applied-returns
check_applied-returns t c =
    let f = tm c.deref.result.now in
    let a = tm c.deref-2.result.now in
    let is : tm c.args.term.now ≡ app f a = ap tm c.in-App.is ∙ ap₂ (λ u v. app (tm u) (tm v)) (sym c.deref.ensures) (sym c.deref-2.ensures) in
    subst (λ u. TellsForm u (spine (rtm c.args.head.now) (rtms c.args.items.now) c.args.at) c.check_form.result) (sym is)
    (subst (λ (rs : RTms). TellsForm (app f a) (spine (rtm c.args.head.now) rs c.args.at) c.check_form.result) (sym (rtms_last c.args.items.now c.in-Some.front.now c.in-Some.last.now c.in-Some.ensures.cases.0))
    (last_form f a (rtm c.args.head.now) (rtms c.in-Some.front.now) (rtm c.in-Some.last.now) c.args.at c.check_form.result c.in_ok-check_applied.ensures c.check_form.ensures))
