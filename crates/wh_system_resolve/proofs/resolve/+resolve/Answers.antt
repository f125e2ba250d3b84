use mathlib.Core.Path.{ap₂}
use Rattle.std.proofs.Common.{◌≡◌, ◌+◌, List, [], ◌∷◌, drop, Some, ap, subst, sym, ◌∙◌, arith}
use Rattle.std.proofs.lemmas.List.{map-append}
use Rattle.wh_types.specs.Erase.{ty}
use Rattle.wh_types.specs.Ty.{◌⇒◌}
use Rattle.wh_terms.specs.Tree.{app, lam as lam_tree}
use Rattle.wh_terms.specs.Erase.{tm, tms}
use Rattle.wh_terms.proofs.TermLemmas.{tms_append}
use Rattle.wh_text.specs.Erase.{rtm, rty, rtms, rbinder}
use Rattle.wh_text.specs.RawTree.{lam, spine}
use Rattle.wh_text.specs.declared.raw.RawTerm.{RawTerm}
use Rattle.wh_system_resolve.specs.declared.around.Around.{Around}
use Rattle.wh_system_resolve.specs.declared.around.ResolvedList.{ResolvedList}
use Rattle.wh_system_parts.specs.declared.fault.SystemFault.TheVariants.{IllTyped}
use Rattle.wh_system_resolve.specs.Answers.{IsResolved}
use Rattle.wh_system_parts.specs.Faults.{first_fault}
use Rattle.wh_system_resolve.specs.InScope.{scope as in_scope, type_of, typed, types_of}
use Rattle.wh_system_parts.specs.Kinds.{binders_of, kind_of, spine_kind, takes, gives}
use Rattle.wh_system_parts.specs.Naming.{meant, applied_meant}
use Rattle.wh_system_resolve.specs.Resolving.{AreResolved, ResolvesEach, ResolvesSpine}
use Rattle.wh_system_parts.specs.Tests.{test, naming_tests, namings_tests, applying_tests}
use Rattle.std.specs.Prelude.{not}
use Rattle.wh_system_resolve.proofs.AnswerLemmas.{Fails, told_fails, matched_err}
use Rattle.wh_text.proofs.RawLemmas.{rtm_of_meta, rtm_of_spine}
use Rattle.wh_system_parts.proofs.RawTerms.{left_next, left_none, weight_in_meta, weight_in_spine, weight_in_item}
use Rattle.wh_system_resolve.proofs.ResolveLemmas.{spine_next, spine_fails_in, spine_fails_at, part_next, part_all, part_fails}
use Rattle.wh_system_resolve.proofs.ResolveWhole.{term_fails, each_fails, type_fails, kinds_long, meta_whole, meta_fails, lam_whole, lam_fails_at, lam_fails_in, spine_whole, spine_fails_head}
use Rattle.wh_system_resolve.proofs.resolve.+resolve.Goals as goal

pub resolve_under-resolve_each-requires : goal.resolve_under-resolve_each-requires
resolve_under-resolve_each-requires t c = (omega (arith, weight_in_meta c.args.term.now c.in-Meta.name c.in-Meta.items c.in-Meta.at c.in-Meta.is), tt)

pub resolve_under-resolve_applied-requires : goal.resolve_under-resolve_applied-requires
resolve_under-resolve_applied-requires t c = (omega (arith, weight_in_spine c.args.term.now c.in-Spine.head c.in-Spine.items c.in-Spine.field-2 c.in-Spine.is), tt)

pub resolve_each-resolve_under-requires : goal.resolve_each-resolve_under-requires
resolve_each-resolve_under-requires t c =
    (omega (arith, weight_in_item c.args.items.now c.as_slice-item-items.result.now c.loop-item.item-index c.item-item.result c.as_slice-item-items.ensures c.loop-item-test.true c.item-item.is), tt)

pub resolve_applied-resolve_under-requires : goal.resolve_applied-resolve_under-requires
resolve_applied-resolve_under-requires t c =
    (omega (arith, weight_in_item c.args.items.now c.as_slice-item-items.result.now c.loop-item.item-index c.item-item.result c.as_slice-item-items.ensures c.loop-item-test.true c.item-item.is), tt)

pub resolve_under-returns-in_err-list-in-Meta-clause-told : goal.resolve_under-returns-in_err-list-in-Meta-clause-told
resolve_under-returns-in_err-list-in-Meta-clause-told t c =
    let s = in_scope c.args.scope.now in
    let bs = typed c.args.passed.now.items in
    let u = rtm c.args.term.now in
    let e = c.in_err-list-in-Meta.field-0.0 in
    matched_err (IsResolved (naming_tests s bs u) (meant s (binders_of bs) u) (kind_of s bs u)) (naming_tests s bs u) c.from_residual-in_err-list-in-Meta.result e c.from_residual-in_err-list-in-Meta.ensures.1
    (meta_fails s bs u c.in-Meta.name (rtms c.in-Meta.items) c.in-Meta.at e (rtm_of_meta c.args.term.now c.in-Meta.name c.in-Meta.items c.in-Meta.at c.in-Meta.is)
    (each_fails s bs (rtms c.in-Meta.items) e c.in_err-list-in-Meta.ensures.told))

pub resolve_under-applied_meta-requires : goal.resolve_under-applied_meta-requires
resolve_under-applied_meta-requires t c =
    kinds_long (in_scope c.args.scope.now) (typed c.args.passed.now.items) c.in-Meta.items c.in_ok-list-in-Meta.list.kinds c.in_ok-list-in-Meta.ensures.told.kinds

pub resolve_under-returns-in_err-kind-in-Lam-clause-told : goal.resolve_under-returns-in_err-kind-in-Lam-clause-told
resolve_under-returns-in_err-kind-in-Lam-clause-told t c =
    let s = in_scope c.args.scope.now in
    let bs = typed c.args.passed.now.items in
    let u = rtm c.args.term.now in
    let e = c.in_err-kind-in-Lam.field-0.0 in
    matched_err (IsResolved (naming_tests s bs u) (meant s (binders_of bs) u) (kind_of s bs u)) (naming_tests s bs u) c.from_residual-in_err-kind-in-Lam.result e c.from_residual-in_err-kind-in-Lam.ensures.1
    (lam_fails_at s bs u (rtm c.in-Lam.body.value) (rbinder c.in-Lam.binder) (rty c.deref-in-Lam.result.now) c.in-Lam.field-3 e
    (ap rtm c.in-Lam.is ∙ ap (λ k. lam (rbinder c.in-Lam.binder) (rty k) (rtm c.in-Lam.body.value) c.in-Lam.field-3) (sym c.deref-in-Lam.ensures))
    (type_fails s.sorts (rty c.deref-in-Lam.result.now) e c.in_err-kind-in-Lam.ensures))

pub resolve_under-returns-in_err-body-in-Lam-clause-told : goal.resolve_under-returns-in_err-body-in-Lam-clause-told
resolve_under-returns-in_err-body-in-Lam-clause-told t c =
    let s = in_scope c.args.scope.now in
    let bs = typed c.args.passed.now.items in
    let u = rtm c.args.term.now in
    let x = rbinder c.in-Lam.binder in
    let a = rty c.deref-in-Lam.result.now in
    let k = ty c.in_ok-copy-in-Lam.field-0 in
    let body = rtm c.deref-in-Lam-2.result.now in
    let e = c.in_err-body-in-Lam.field-0.0 in
    let is : u ≡ lam x a body c.in-Lam.field-3 =
    ap rtm c.in-Lam.is ∙ ap₂ (λ k b. lam x (rty k) (rtm b) c.in-Lam.field-3) (sym c.deref-in-Lam.ensures) (sym c.deref-in-Lam-2.ensures) in
    matched_err (IsResolved (naming_tests s bs u) (meant s (binders_of bs) u) (kind_of s bs u)) (naming_tests s bs u) c.from_residual-in_err-body-in-Lam.result e c.from_residual-in_err-body-in-Lam.ensures.1
    (lam_fails_in s bs u body x a c.in-Lam.field-3 k e is c.in_ok-kind-in-Lam.ensures.0 (c.in_ok-kind-in-Lam.ensures.1 ∙ ap Some (sym c.in_ok-copy-in-Lam.ensures))
    (term_fails s (record { binder = x; kind = Some k } ∷ bs) body e c.in_err-body-in-Lam.ensures.told))

pub resolve_under-returns-in_err-head-in-Spine-clause-told : goal.resolve_under-returns-in_err-head-in-Spine-clause-told
resolve_under-returns-in_err-head-in-Spine-clause-told t c =
    let s = in_scope c.args.scope.now in
    let bs = typed c.args.passed.now.items in
    let u = rtm c.args.term.now in
    let h = rtm c.deref-in-Spine.result.now in
    let ts = rtms c.in-Spine.items in
    let e = c.in_err-head-in-Spine.field-0.0 in
    let is : u ≡ spine h ts c.in-Spine.field-2 =
    rtm_of_spine c.args.term.now c.in-Spine.head c.in-Spine.items c.in-Spine.field-2 c.in-Spine.is ∙ ap (λ b. spine (rtm b) ts c.in-Spine.field-2) (sym c.deref-in-Spine.ensures) in
    matched_err (IsResolved (naming_tests s bs u) (meant s (binders_of bs) u) (kind_of s bs u)) (naming_tests s bs u) c.from_residual-in_err-head-in-Spine.result e c.from_residual-in_err-head-in-Spine.ensures.1
    (spine_fails_head s bs u h ts c.in-Spine.field-2 e is (term_fails s bs h e c.in_err-head-in-Spine.ensures.told))

pub resolve_under-returns-in_ok-list-in-Meta-clause-told : goal.resolve_under-returns-in_ok-list-in-Meta-clause-told
resolve_under-returns-in_ok-list-in-Meta-clause-told t c =
    meta_whole (in_scope c.args.scope.now) (typed c.args.passed.now.items) (rtm c.args.term.now) c.in-Meta.name (rtms c.in-Meta.items) c.in-Meta.at c.in_ok-list-in-Meta.list c.applied_meta.result
    (rtm_of_meta c.args.term.now c.in-Meta.name c.in-Meta.items c.in-Meta.at c.in-Meta.is) c.in_ok-list-in-Meta.ensures.told c.applied_meta.ensures

pub resolve_under-returns-in_ok-abstracted-in-Lam-clause-told : goal.resolve_under-returns-in_ok-abstracted-in-Lam-clause-told
resolve_under-returns-in_ok-abstracted-in-Lam-clause-told t c =
    let u = rtm c.args.term.now in
    let x = rbinder c.in-Lam.binder in
    let a = rty c.deref-in-Lam.result.now in
    let k = ty c.in_ok-copy-in-Lam.field-0 in
    let body = rtm c.deref-in-Lam-2.result.now in
    let is : u ≡ lam x a body c.in-Lam.field-3 =
    ap rtm c.in-Lam.is ∙ ap₂ (λ k b. lam x (rty k) (rtm b) c.in-Lam.field-3) (sym c.deref-in-Lam.ensures) (sym c.deref-in-Lam-2.ensures) in
    lam_whole (in_scope c.args.scope.now) (typed c.args.passed.now.items) u body x a c.in-Lam.field-3 k c.in_ok-body-in-Lam.body c.in_ok-abstracted-in-Lam.field-0 is
    c.in_ok-kind-in-Lam.ensures.0 (c.in_ok-kind-in-Lam.ensures.1 ∙ ap Some (sym c.in_ok-copy-in-Lam.ensures)) c.in_ok-body-in-Lam.ensures.told
    (c.in_ok-abstracted-in-Lam.ensures.term ∙ ap (λ j. lam_tree j (tm c.in_ok-body-in-Lam.body.term)) (sym c.in_ok-copy-in-Lam.ensures))
    (c.in_ok-abstracted-in-Lam.ensures.kind ∙ ap (λ j. j ⇒ type_of c.in_ok-body-in-Lam.body.kind) (sym c.in_ok-copy-in-Lam.ensures))

pub resolve_under-returns-in_ok-head-in-Spine-clause-told : goal.resolve_under-returns-in_ok-head-in-Spine-clause-told
resolve_under-returns-in_ok-head-in-Spine-clause-told t c =
    let s = in_scope c.args.scope.now in
    let h = rtm c.deref-in-Spine.result.now in
    let ts = rtms c.in-Spine.items in
    let is : rtm c.args.term.now ≡ spine h ts c.in-Spine.field-2 =
    rtm_of_spine c.args.term.now c.in-Spine.head c.in-Spine.items c.in-Spine.field-2 c.in-Spine.is ∙ ap (λ b. spine (rtm b) ts c.in-Spine.field-2) (sym c.deref-in-Spine.ensures) in
    spine_whole s (typed c.args.passed.now.items) (rtm c.args.term.now) h ts c.in-Spine.field-2 c.in_ok-head-in-Spine.head c.resolve_applied.result is c.in_ok-head-in-Spine.ensures.told
    (subst (λ (ps : List Around). ResolvesSpine s (typed ps) (Some (tm c.in_ok-head-in-Spine.head.term)) (Some (type_of c.in_ok-head-in-Spine.head.kind)) ts c.resolve_applied.result)
    c.in_ok-head-in-Spine.ensures.kept c.resolve_applied.ensures.told)

pub resolve_each-returns-in_err-term-clause-told : goal.resolve_each-returns-in_err-term-clause-told
resolve_each-returns-in_err-term-clause-told t c =
    let s = in_scope c.args.scope.now in
    let bs = typed c.args.passed.now.items in
    let xs = c.as_slice-item-items.result.now in
    let u = rtm c.item-item.result in
    let e = c.in_err-term.field-0.0 in
    let here = subst (λ (ps : List Around). Fails (first_fault (naming_tests s (typed ps) u)) e) c.loop-item.invariant.0 (term_fails s (typed c.loop-item.passed.items) u e c.in_err-term.ensures.told) in
    subst (λ (ys : List RawTerm). ResolvesEach s bs (rtms ys) c.from_residual.result) c.as_slice-item-items.ensures
    (matched_err (AreResolved s bs (rtms xs)) (namings_tests s bs (rtms xs)) c.from_residual.result e c.from_residual.ensures.1
    (part_fails s bs (rtms xs) (rtms (drop c.loop-item.item-index xs)) (rtms (drop (c.loop-item.item-index + 1) xs)) (tms c.loop-item.trees) (types_of c.loop-item.kinds) u e c.loop-item.invariant.1
    (left_next xs c.loop-item.item-index c.item-item.result c.loop-item-test.true c.item-item.is) here))

pub resolve_each-loop-item-preserved : goal.resolve_each-loop-item-preserved
resolve_each-loop-item-preserved t c =
    let s = in_scope c.args.scope.now in
    let bs = typed c.args.passed.now.items in
    let xs = c.as_slice-item-items.result.now in
    let u = rtm c.item-item.result in
    let r = c.in_ok-term.field-0 in
    let here = subst (λ (ps : List Around). IsResolved (naming_tests s (typed ps) u) (meant s (binders_of (typed ps)) u) (kind_of s (typed ps) u) r) c.loop-item.invariant.0 c.in_ok-term.ensures.told in (
      ◌∙◌ {A = List Around} c.in_ok-term.ensures.kept c.loop-item.invariant.0,
      part_next s bs (rtms xs) (rtms (drop c.loop-item.item-index xs)) (rtms (drop (c.loop-item.item-index + 1) xs)) (tms c.loop-item.trees) (tms c.push.new.self) (types_of c.loop-item.kinds) (types_of c.push-in-loop-item.new.self)
          u (tm r.term) (type_of r.kind) c.loop-item.invariant.1 (left_next xs c.loop-item.item-index c.item-item.result c.loop-item-test.true c.item-item.is) here.passed here.term here.kind
          (ap tms c.in_ok-push.ensures.ok ∙ tms_append c.loop-item.trees (r.term ∷ []))
          (ap types_of c.in_ok-push-2.ensures.ok ∙ map-append type_of c.loop-item.kinds (r.kind ∷ [])),
    )

pub resolve_each-returns-clause-told : goal.resolve_each-returns-clause-told
resolve_each-returns-clause-told t c =
    let s = in_scope c.args.scope.now in
    let bs = typed c.args.passed.now.items in
    let xs = c.as_slice-item-items.result.now in
    let r : ResolvedList = record { trees = c.loop-item.trees; kinds = c.loop-item.kinds } in
    subst (λ (ys : List RawTerm). AreResolved s bs (rtms ys) r) c.as_slice-item-items.ensures
    (part_all s bs (rtms xs) (rtms (drop c.loop-item.item-index xs)) r c.loop-item.invariant.1 (left_none xs c.loop-item.item-index c.loop-item-test.false))

pub resolve_applied-returns-in_err-argument-clause-told : goal.resolve_applied-returns-in_err-argument-clause-told
resolve_applied-returns-in_err-argument-clause-told t c =
    let s = in_scope c.args.scope.now in
    let bs = typed c.args.passed.now.items in
    let xs = c.as_slice-item-items.result.now in
    let u = Some (tm c.args.head.term) in
    let a = Some (type_of c.args.head.kind) in
    let x = rtm c.item-item.result in
    let e = c.in_err-argument.field-0.0 in
    let here = subst (λ (ps : List Around). Fails (first_fault (naming_tests s (typed ps) x)) e) c.loop-item.invariant.0 (term_fails s (typed c.loop-item.passed.items) x e c.in_err-argument.ensures.told) in
    subst (λ (ys : List RawTerm). ResolvesSpine s bs u a (rtms ys) c.from_residual.result) c.as_slice-item-items.ensures
    (matched_err (IsResolved (applying_tests s bs a (rtms xs)) (applied_meant s (binders_of bs) u (rtms xs)) (spine_kind s bs a (rtms xs))) (applying_tests s bs a (rtms xs)) c.from_residual.result e c.from_residual.ensures.1
    (spine_fails_in s bs u (Some (tm c.loop-item.whole.term)) a (Some (type_of c.loop-item.whole.kind)) (rtms xs) (rtms (drop c.loop-item.item-index xs)) (rtms (drop (c.loop-item.item-index + 1) xs)) x e c.loop-item.invariant.1
    (left_next xs c.loop-item.item-index c.item-item.result c.loop-item-test.true c.item-item.is) here))

pub resolve_applied-returns-in_err-whole-clause-told : goal.resolve_applied-returns-in_err-whole-clause-told
resolve_applied-returns-in_err-whole-clause-told t c =
    let s = in_scope c.args.scope.now in
    let bs = typed c.args.passed.now.items in
    let xs = c.as_slice-item-items.result.now in
    let u = Some (tm c.args.head.term) in
    let a = Some (type_of c.args.head.kind) in
    let x = rtm c.item-item.result in
    let f = c.loop-item.whole in
    let r = c.in_ok-argument.argument in
    let e = c.in_err-whole.field-0.0 in
    let here = subst (λ (ps : List Around). IsResolved (naming_tests s (typed ps) x) (meant s (binders_of (typed ps)) x) (kind_of s (typed ps) x) r) c.loop-item.invariant.0 c.in_ok-argument.ensures.told in
    subst (λ (ys : List RawTerm). ResolvesSpine s bs u a (rtms ys) c.from_residual-in_err-whole.result) c.as_slice-item-items.ensures
    (matched_err (IsResolved (applying_tests s bs a (rtms xs)) (applied_meant s (binders_of bs) u (rtms xs)) (spine_kind s bs a (rtms xs))) (applying_tests s bs a (rtms xs)) c.from_residual-in_err-whole.result e c.from_residual-in_err-whole.ensures.1
    (spine_fails_at s bs u a (rtms xs) f r x (rtms (drop c.loop-item.item-index xs)) (rtms (drop (c.loop-item.item-index + 1) xs)) c.offset.result e c.loop-item.invariant.1
    (left_next xs c.loop-item.item-index c.item-item.result c.loop-item-test.true c.item-item.is) c.offset.ensures here
    (told_fails (test (not (takes (Some (type_of f.kind)) (Some (type_of r.kind)))) (IllTyped c.offset.result) ∷ []) (Some (app (tm f.term) (tm r.term))) (gives (Some (type_of f.kind))) e c.in_err-whole.ensures)))

pub resolve_applied-loop-item-preserved : goal.resolve_applied-loop-item-preserved
resolve_applied-loop-item-preserved t c =
    let s = in_scope c.args.scope.now in
    let bs = typed c.args.passed.now.items in
    let xs = c.as_slice-item-items.result.now in
    let x = rtm c.item-item.result in
    let r = c.in_ok-argument.argument in
    let here = subst (λ (ps : List Around). IsResolved (naming_tests s (typed ps) x) (meant s (binders_of (typed ps)) x) (kind_of s (typed ps) x) r) c.loop-item.invariant.0 c.in_ok-argument.ensures.told in (
      ◌∙◌ {A = List Around} c.in_ok-argument.ensures.kept c.loop-item.invariant.0,
      spine_next s bs (Some (tm c.args.head.term)) (Some (type_of c.args.head.kind)) (rtms xs) c.loop-item.whole r c.in_ok-whole.whole x (rtms (drop c.loop-item.item-index xs)) (rtms (drop (c.loop-item.item-index + 1) xs)) c.offset.result
          c.loop-item.invariant.1 (left_next xs c.loop-item.item-index c.item-item.result c.loop-item-test.true c.item-item.is) c.offset.ensures here c.in_ok-whole.ensures,
    )
