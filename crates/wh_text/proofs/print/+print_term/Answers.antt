use mathlib.Core.Path.{ap₂}
use Rattle.std.proofs.Common.{◌≡◌, ◌∙◌, sym, ap, subst}
use Rattle.wh_text.specs.RawTree.{lam, spine}
use Rattle.wh_text.specs.declared.raw.RawTerm.{RawTerm}
use Rattle.wh_text.specs.Erase.{rty, rbinder, rtm, rtms}
use Rattle.wh_text.proofs.RawLemmas.{rtm_of_meta, rtm_of_spine}
use Rattle.wh_text.proofs.PrintLemmas.{on_ok, meta_pushes, bracketed_pushes, lam_pushes, spine_pushes}
use Rattle.wh_text.proofs.print.+print_term.Goals as goal

pub print_bracketed-returns : goal.print_bracketed-returns
print_bracketed-returns t c =
    on_ok c.push.result _ _ (bracketed_pushes c.args.args.now c.as_slice.result.now c.args.out.now c.print_each.new.out c.push.new.self c.as_slice.ensures (sym c.is_empty.ensures ∙ c.if-is_empty.false) c.in_ok-print_each.ensures) c.push.ensures.ok

pub print_term-returns-in_ok-append-in-Meta : goal.print_term-returns-in_ok-append-in-Meta
print_term-returns-in_ok-append-in-Meta t c =
    let is = rtm_of_meta c.args.term.now c.in-Meta.name c.in-Meta.args c.in-Meta.field-2 c.in-Meta.is in
    on_ok c.print_bracketed.result _ _ (meta_pushes (rtm c.args.term.now) c.in-Meta.name (rtms c.in-Meta.args) c.in-Meta.field-2 c.args.out.now c.append-in-Meta.new.self c.print_bracketed.new.out c.bytes-in-Meta.result.now is c.bytes-in-Meta.ensures.value c.in_ok-append-in-Meta.ensures.ok) c.print_bracketed.ensures

pub print_term-returns-in_ok-print_term-in-Lam : goal.print_term-returns-in_ok-print_term-in-Lam
print_term-returns-in_ok-print_term-in-Lam t c =
    let binder = rbinder c.in-Lam.binder in
    let type = rty c.deref-in-Lam.result.now in
    let is : rtm c.args.term.now ≡ lam binder type (rtm c.deref-in-Lam-2.result.now) c.in-Lam.field-3 =
    ap rtm c.in-Lam.is ∙ ap₂ (λ a b. lam binder (rty a) (rtm b) c.in-Lam.field-3) (sym c.deref-in-Lam.ensures) (sym c.deref-in-Lam-2.ensures) in
    on_ok c.push-in-Lam-3.result _ _ (lam_pushes (rtm c.args.term.now) binder type (rtm c.deref-in-Lam-2.result.now) c.in-Lam.field-3 c.args.out.now c.append-in-Lam.new.self c.print_binder.new.out c.push-in-Lam.new.self c.print_part-in-Lam.new.out c.push-in-Lam-2.new.self c.print_term.new.out c.push-in-Lam-3.new.self is c.in_ok-append-in-Lam.ensures.ok c.in_ok-print_binder-in-Lam.ensures c.in_ok-push-in-Lam.ensures.ok c.in_ok-print_part-in-Lam.ensures c.in_ok-push-in-Lam-2.ensures.ok c.in_ok-print_term-in-Lam.ensures) c.push-in-Lam-3.ensures.ok

pub print_term-returns-in_ok-print_each-in-Spine :
    goal.print_term-returns-in_ok-print_each-in-Spine
print_term-returns-in_ok-print_each-in-Spine t c =
    let args = rtms c.in-Spine.args in
    let Is : RawTerm → Type 0 = λ head. rtm c.args.term.now ≡ spine (rtm head) args c.in-Spine.field-2 in
    let is : Is c.deref-in-Spine.result.now = subst Is (sym c.deref-in-Spine.ensures) (rtm_of_spine c.args.term.now c.in-Spine.head c.in-Spine.args c.in-Spine.field-2 c.in-Spine.is) in
    on_ok c.push-in-Spine-2.result _ _ (spine_pushes (rtm c.args.term.now) (rtm c.deref-in-Spine.result.now) args c.in-Spine.field-2 c.args.out.now c.push-in-Spine.new.self c.print_term-in-Spine.new.out c.print_each.new.out c.push-in-Spine-2.new.self is c.in_ok-push-in-Spine.ensures.ok c.in_ok-print_term-in-Spine.ensures c.in_ok-print_each-in-Spine.ensures) c.push-in-Spine-2.ensures.ok
