use Rattle.std.proofs.Common.{◌≡◌, List, [], Ok, ap, ap₂, sym, ◌∙◌, subst, arith}
use Rattle.std.proofs.lemmas.List.{nil_from_length}
use Rattle.wh_types.specs.Erase.{ty}
use Rattle.wh_terms.specs.Tree.{Tm, lam, app, more as more_tms}
use Rattle.wh_terms.specs.Erase.{tm, tms}
use Rattle.wh_terms.specs.declared.term.Term.{Term}
use Rattle.wh_text.specs.Erase.{rtm, rty, rtms, rbinder}
use Rattle.wh_text.specs.RawTree.{RTm, RTms, lam as raw_lam, spine}
use Rattle.wh_text.specs.declared.raw.RawTerm.{RawTerm}
use Rattle.wh_text.proofs.RawLemmas.{rtm_of_meta, rtm_of_spine}
use Rattle.wh_system_parts.proofs.RawTerms.{weight, weights, weight_in_meta, weight_in_spine}
use Rattle.wh_system_resolve.specs.Marks.{TellsNew, TellsNewEach}
use Rattle.wh_system_resolve.proofs.MeantParts.{rtms_last, weights_last, weights_first}
use Rattle.wh_system_resolve.proofs.MarkLemmas.{named_new, meta_new, meta_new_fails, no_meta_new, lam_new, no_lam_new, head_new, last_new, last_new_fails, no_app_new, each_new, each_new_fails, none_new, fewer_new}
use Rattle.wh_system_resolve.proofs.new_metas.+marked.Goals as goal

-- the measures

pub check_marked-check_each_marked-requires : goal.check_marked-check_each_marked-requires
check_marked-check_each_marked-requires t c =
    (omega (arith, weight_in_meta c.args.raw.now c.in-Meta.field-0 c.in-Meta.items c.in-Meta.at c.in-Meta.is, ap (λ xs. weights (rtms xs)) c.as_slice.ensures), tt)

pub check_marked-check_applied_marked-requires : goal.check_marked-check_applied_marked-requires
check_marked-check_applied_marked-requires t c = (
  omega (arith, weight_in_spine c.args.raw.now c.in-Spine.head c.in-Spine.items c.in-Spine.field-2 c.in-Spine.is, ap (λ h. weight (rtm h)) c.deref-in-Spine.ensures, ap (λ xs. weights (rtms xs)) c.as_slice-in-Spine.ensures),
  tt,
)

pub check_applied_marked-check_applied_marked-requires : goal.check_applied_marked-check_applied_marked-requires
check_applied_marked-check_applied_marked-requires t c = (omega (arith, weights_last c.args.items.now c.in-Some.front.now c.in-Some.last.now c.in-Some.ensures.cases.0), tt)

pub check_applied_marked-check_marked-requires-2 : goal.check_applied_marked-check_marked-requires-2
check_applied_marked-check_marked-requires-2 t c = (omega (arith, weights_last c.args.items.now c.in-Some.front.now c.in-Some.last.now c.in-Some.ensures.cases.0), tt)

pub check_each_marked-check_marked-requires : goal.check_each_marked-check_marked-requires
check_each_marked-check_marked-requires t c = (omega (arith, weights_first c.args.items.now c.in-Some.further.now c.in-Some.item.now c.in-Some.ensures.cases.0), tt)

pub check_each_marked-check_each_marked-requires : goal.check_each_marked-check_each_marked-requires
check_each_marked-check_each_marked-requires t c = (omega (arith, weights_first c.args.items.now c.in-Some.further.now c.in-Some.item.now c.in-Some.ensures.cases.0), tt)

-- the parts of a raw term

pub check_marked-returns-in-Named : goal.check_marked-returns-in-Named
check_marked-returns-in-Named t c =
    subst (λ (r : RTm). TellsNew c.args.marks.now (tm c.args.term.now) r c.check_mark.result) (sym (ap rtm c.in-Named.is))
    (named_new c.args.marks.now (tm c.args.term.now) c.in-Named.field-0 c.in-Named.at c.check_mark.result c.check_mark.ensures)

pub check_marked-returns-in_err-check_mark-in-Meta : goal.check_marked-returns-in_err-check_mark-in-Meta
check_marked-returns-in_err-check_mark-in-Meta t c =
    subst (λ (r : RTm). TellsNew c.args.marks.now (tm c.args.term.now) r c.from_residual.result) (sym (rtm_of_meta c.args.raw.now c.in-Meta.field-0 c.in-Meta.items c.in-Meta.at c.in-Meta.is))
    (meta_new_fails c.args.marks.now (tm c.args.term.now) c.in-Meta.field-0 (rtms c.in-Meta.items) c.in-Meta.at c.in_err-check_mark-in-Meta.field-0.0 c.from_residual.result
    c.from_residual.ensures.1 c.in_err-check_mark-in-Meta.ensures)

pub check_marked-returns-in_default : goal.check_marked-returns-in_default
check_marked-returns-in_default t c =
    subst (λ (r : RTm). TellsNew c.args.marks.now (tm c.args.term.now) r (Ok tt)) (sym (rtm_of_meta c.args.raw.now c.in-Meta.field-0 c.in-Meta.items c.in-Meta.at c.in-Meta.is))
    (no_meta_new c.args.marks.now (tm c.args.term.now) c.in-Meta.field-0 (rtms c.in-Meta.items) c.in-Meta.at (Ok tt) (sym c.in_default.ensures))

pub check_marked-returns-in-Some : goal.check_marked-returns-in-Some
check_marked-returns-in-Some t c =
    subst (λ (r : RTm). TellsNew c.args.marks.now (tm c.args.term.now) r c.check_each_marked.result) (sym (rtm_of_meta c.args.raw.now c.in-Meta.field-0 c.in-Meta.items c.in-Meta.at c.in-Meta.is))
    (meta_new c.args.marks.now (tm c.args.term.now) c.in-Meta.field-0 (rtms c.in-Meta.items) c.in-Meta.at (tms c.in-Some.arguments.now) c.check_each_marked.result c.in_ok-check_mark-in-Meta.ensures
    (sym c.in-Some.ensures)
    (subst (λ (xs : List RawTerm). TellsNewEach c.args.marks.now (tms c.in-Some.arguments.now) (rtms xs) c.check_each_marked.result) c.as_slice.ensures c.check_each_marked.ensures))

pub check_marked-returns-in_default-term : goal.check_marked-returns-in_default-term
check_marked-returns-in_default-term t c =
    subst (λ (r : RTm). TellsNew c.args.marks.now (tm c.args.term.now) r (Ok tt)) (sym (ap rtm c.in-Lam.is))
    (no_lam_new c.args.marks.now c.args.term.now (rbinder c.in-Lam.field-0) (rty c.in-Lam.field-1.value) (rtm c.in-Lam.inner.value) c.in-Lam.field-3 (Ok tt) c.in_default-term.not-Lam)

pub check_marked-returns-in-Lam-term : goal.check_marked-returns-in-Lam-term
check_marked-returns-in-Lam-term t c =
    let x = rbinder c.in-Lam.field-0 in
    let a = rty c.in-Lam.field-1.value in
    let inner = c.deref-in-Lam.result.now in
    let body = c.deref.result.now in
    let raw : rtm c.args.raw.now ≡ raw_lam x a (rtm inner) c.in-Lam.field-3 = ap rtm c.in-Lam.is ∙ ap (λ r. raw_lam x a (rtm r) c.in-Lam.field-3) (sym c.deref-in-Lam.ensures) in
    let is : tm c.args.term.now ≡ lam (ty c.in-Lam-term.field-0) (tm body) = ap tm c.in-Lam-term.is ∙ ap (λ u. lam (ty c.in-Lam-term.field-0) (tm u)) (sym c.deref.ensures) in
    subst (λ (r : RTm). TellsNew c.args.marks.now (tm c.args.term.now) r c.check_marked.result) (sym raw)
    (lam_new c.args.marks.now (tm c.args.term.now) (tm body) (ty c.in-Lam-term.field-0) x a (rtm inner) c.in-Lam.field-3 c.check_marked.result is c.check_marked.ensures)

pub check_marked-returns-in-Spine : goal.check_marked-returns-in-Spine
check_marked-returns-in-Spine t c =
    let raw : rtm c.args.raw.now ≡ spine (rtm c.deref-in-Spine.result.now) (rtms c.as_slice-in-Spine.result.now) c.in-Spine.field-2 =
    rtm_of_spine c.args.raw.now c.in-Spine.head c.in-Spine.items c.in-Spine.field-2 c.in-Spine.is
    ∙ ap₂ (λ h xs. spine (rtm h) (rtms xs) c.in-Spine.field-2) (sym c.deref-in-Spine.ensures) (sym c.as_slice-in-Spine.ensures) in
    subst (λ (r : RTm). TellsNew c.args.marks.now (tm c.args.term.now) r c.check_applied_marked.result) (sym raw) c.check_applied_marked.ensures

-- a head and its arguments

pub check_applied_marked-returns-in_default : goal.check_applied_marked-returns-in_default
check_applied_marked-returns-in_default t c =
    subst (λ (xs : List RawTerm). TellsNew c.args.marks.now (tm c.args.term.now) (spine (rtm c.args.head.now) (rtms xs) 0) c.check_marked.result) (sym (nil_from_length c.args.items.now c.in_default.ensures.cases))
    (head_new c.args.marks.now (tm c.args.term.now) (rtm c.args.head.now) c.check_marked.result c.check_marked.ensures)

pub check_applied_marked-returns-in_default-term : goal.check_applied_marked-returns-in_default-term
check_applied_marked-returns-in_default-term t c =
    subst (λ (rs : RTms). TellsNew c.args.marks.now (tm c.args.term.now) (spine (rtm c.args.head.now) rs 0) (Ok tt)) (sym (rtms_last c.args.items.now c.in-Some.front.now c.in-Some.last.now c.in-Some.ensures.cases.0))
    (no_app_new c.args.marks.now c.args.term.now (rtm c.args.head.now) (rtms c.in-Some.front.now) (rtm c.in-Some.last.now) (Ok tt) c.in_default-term.not-App)

pub check_applied_marked-returns-in_err-check_applied_marked : goal.check_applied_marked-returns-in_err-check_applied_marked
check_applied_marked-returns-in_err-check_applied_marked t c =
    let f = tm c.deref.result.now in
    let a = tm c.in-App.argument.value in
    let is : tm c.args.term.now ≡ app f a = ap tm c.in-App.is ∙ ap (λ u. app (tm u) a) (sym c.deref.ensures) in
    let x = c.in_err-check_applied_marked.field-0.0 in
    subst (λ (u : Tm). TellsNew c.args.marks.now u (spine (rtm c.args.head.now) (rtms c.args.items.now) 0) c.from_residual.result) (sym is)
    (subst (λ (rs : RTms). TellsNew c.args.marks.now (app f a) (spine (rtm c.args.head.now) rs 0) c.from_residual.result) (sym (rtms_last c.args.items.now c.in-Some.front.now c.in-Some.last.now c.in-Some.ensures.cases.0))
    (last_new_fails c.args.marks.now f a (rtm c.args.head.now) (rtms c.in-Some.front.now) (rtm c.in-Some.last.now) x c.from_residual.result c.from_residual.ensures.1 c.in_err-check_applied_marked.ensures))

pub check_applied_marked-returns : goal.check_applied_marked-returns
check_applied_marked-returns t c =
    let f = tm c.deref.result.now in
    let a = tm c.deref-2.result.now in
    let is : tm c.args.term.now ≡ app f a = ap tm c.in-App.is ∙ ap₂ (λ u v. app (tm u) (tm v)) (sym c.deref.ensures) (sym c.deref-2.ensures) in
    subst (λ (u : Tm). TellsNew c.args.marks.now u (spine (rtm c.args.head.now) (rtms c.args.items.now) 0) c.check_marked-2.result) (sym is)
    (subst (λ (rs : RTms). TellsNew c.args.marks.now (app f a) (spine (rtm c.args.head.now) rs 0) c.check_marked-2.result) (sym (rtms_last c.args.items.now c.in-Some.front.now c.in-Some.last.now c.in-Some.ensures.cases.0))
    (last_new c.args.marks.now f a (rtm c.args.head.now) (rtms c.in-Some.front.now) (rtm c.in-Some.last.now) c.check_marked-2.result c.in_ok-check_applied_marked.ensures c.check_marked-2.ensures))

-- raw terms one after another

pub check_each_marked-returns-in_default : goal.check_each_marked-returns-in_default
check_each_marked-returns-in_default t c =
    subst (λ (xs : List RawTerm). TellsNewEach c.args.marks.now (tms c.args.terms.now) (rtms xs) (Ok tt)) (sym (nil_from_length c.args.items.now c.in_default.ensures.cases)) (none_new c.args.marks.now (tms c.args.terms.now))

pub check_each_marked-returns-in_default-split_first : goal.check_each_marked-returns-in_default-split_first
check_each_marked-returns-in_default-split_first t c =
    subst (λ (us : List Term). TellsNewEach c.args.marks.now (tms us) (rtms c.args.items.now) (Ok tt)) (sym (nil_from_length c.args.terms.now c.in_default-split_first.ensures.cases))
    (subst (λ (xs : List RawTerm). TellsNewEach c.args.marks.now (tms []) (rtms xs) (Ok tt)) (sym c.in-Some.ensures.cases.0) (fewer_new c.args.marks.now (rtm c.in-Some.item.now) (rtms c.in-Some.further.now) (Ok tt)))

pub check_each_marked-returns-in_err-check_marked : goal.check_each_marked-returns-in_err-check_marked
check_each_marked-returns-in_err-check_marked t c =
    let r = c.from_residual.result in
    let u = tm c.in-Some-split_first.term.now in
    let us = tms c.in-Some-split_first.others.now in
    let x = c.in_err-check_marked.field-0.0 in
    subst (λ (ws : List Term). TellsNewEach c.args.marks.now (tms ws) (rtms c.args.items.now) r) (sym c.in-Some-split_first.ensures.cases.0)
    (subst (λ (xs : List RawTerm). TellsNewEach c.args.marks.now (more_tms u us) (rtms xs) r) (sym c.in-Some.ensures.cases.0)
    (each_new_fails c.args.marks.now u us (rtm c.in-Some.item.now) (rtms c.in-Some.further.now) x r c.from_residual.ensures.1 c.in_err-check_marked.ensures))

pub check_each_marked-returns : goal.check_each_marked-returns
check_each_marked-returns t c =
    let r = c.check_each_marked.result in
    let u = tm c.in-Some-split_first.term.now in
    let us = tms c.in-Some-split_first.others.now in
    subst (λ (ws : List Term). TellsNewEach c.args.marks.now (tms ws) (rtms c.args.items.now) r) (sym c.in-Some-split_first.ensures.cases.0)
    (subst (λ (xs : List RawTerm). TellsNewEach c.args.marks.now (more_tms u us) (rtms xs) r) (sym c.in-Some.ensures.cases.0)
    (each_new c.args.marks.now u us (rtm c.in-Some.item.now) (rtms c.in-Some.further.now) r c.in_ok-check_marked.ensures c.check_each_marked.ensures))
