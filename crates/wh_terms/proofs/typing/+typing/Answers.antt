use Rattle.std.proofs.Common.{Bor, ◌≡◌, length, List, ap, subst, sym, ◌∙◌, arith, rules, slice_get, Some, IfOk, refl}
use Rattle.std.proofs.lemmas.Option.{slice_get_read}
use Rattle.wh_types.specs.declared.simple_type.SimpleType.{SimpleType}
use Rattle.wh_types.specs.Erase.{ty, tys}
use Rattle.wh_types.specs.Ty.{◌⇒◌}
use Rattle.wh_terms.specs.Tree.{Tm, app}
use Rattle.wh_terms.specs.Typing.{AllTyped, typed_none}
use Rattle.wh_terms.specs.Scope.{TellsType, scope}
use Rattle.wh_terms.specs.Erase.{tm, tms, symbols, declared_metas}
use Rattle.wh_terms.specs.declared.term.Term.{Term}
use Rattle.wh_terms.specs.declared.rule.MetaDecl.{MetaDecl}
use Rattle.wh_terms.proofs.TermLemmas.{tm_of_meta, weight_in_meta, weight_in_item}
use Rattle.wh_terms.proofs.TypeWalk.{bound_answer, free_answer, fun_answer, meta_answer, meta_none, lam_answer, lam_none, app_answer, scope_push, all_length, all_next, all_none, lacks_type, told_some, told_none}
use Rattle.wh_terms.proofs.typing.+typing.Goals as goal

pub type_under-type_of_meta-requires : goal.type_under-type_of_meta-requires
type_under-type_of_meta-requires t c = (omega (arith, weight_in_meta c.args.term.now c.in-Meta.meta c.in-Meta.items c.in-Meta.is), tt)

pub type_under-returns-in-Bound-clause-typed : goal.type_under-returns-in-Bound-clause-typed
type_under-returns-in-Bound-clause-typed t c =
    bound_answer (symbols c.args.signature.now) (declared_metas c.args.metas.now) (scope c.args.binders.now.items) (scope c.deref.result.now) (tm c.args.term.now) c.in-Bound.number c.type_of_binder.result (ap tm c.in-Bound.is)
    (ap scope c.deref.ensures.value) c.type_of_binder.ensures

pub type_under-returns-in_ok-copy-in-Free-clause-typed : goal.type_under-returns-in_ok-copy-in-Free-clause-typed
type_under-returns-in_ok-copy-in-Free-clause-typed t c =
    free_answer (symbols c.args.signature.now) (declared_metas c.args.metas.now) (scope c.args.binders.now.items) (tm c.args.term.now) c.in-Free.field-0 (ty c.in-Free.kind)
    (ty c.in_ok-copy-in-Free.field-0) (ap tm c.in-Free.is) (c.has_sorts_below.ensures.0 c.if-has_sorts_below.true) c.in_ok-copy-in-Free.ensures

pub type_under-returns-in-Fun-clause-typed : goal.type_under-returns-in-Fun-clause-typed
type_under-returns-in-Fun-clause-typed t c =
    fun_answer (symbols c.args.signature.now) (declared_metas c.args.metas.now) (scope c.args.binders.now.items) (tys c.as_slice.result.now) (tm c.args.term.now) c.in-Fun.symbol c.type_of_symbol.result (ap tm c.in-Fun.is)
    (ap tys c.as_slice.ensures) c.type_of_symbol.ensures

pub type_under-returns-in-Meta-clause-typed : goal.type_under-returns-in-Meta-clause-typed
type_under-returns-in-Meta-clause-typed t c =
    let e = tm_of_meta c.args.term.now c.in-Meta.meta c.in-Meta.items c.in-Meta.is in
    subst (λ (u : Tm). IfOk c.type_of_meta.result (λ answer. TellsType (symbols c.args.signature.now) (declared_metas c.args.metas.now) (scope c.args.binders.now.items) u answer)) (sym e) c.type_of_meta.ensures.typed

pub type_under-returns-in-Some-2-clause-typed : goal.type_under-returns-in-Some-2-clause-typed
type_under-returns-in-Some-2-clause-typed t c =
    let left = ap tm c.deref-in-App.ensures in
    let right = ap tm c.deref-in-App-2.ensures in
    let is : tm c.args.term.now ≡ app (tm c.in-App.function.value) (tm c.in-App.argument.value) = ap tm c.in-App.is in
    app_answer (symbols c.args.signature.now) (declared_metas c.args.metas.now) (scope c.args.binders.now.items) (scope c.args.binders.now.items) (scope c.type_under.new.binders.items) (tm c.args.term.now) (tm c.deref-in-App.result.now) (tm c.deref-in-App-2.result.now)
    (ty c.in-Some.function) (ty c.in-Some-2.argument) c.applied.result (cc) refl (ap scope c.in_ok-function-in-App.ensures.kept)
    (told_some (symbols c.args.signature.now) (declared_metas c.args.metas.now) (scope c.args.binders.now.items) (tm c.deref-in-App.result.now) c.in_ok-function-in-App.field-0 c.in-Some.function c.in-Some.is c.in_ok-function-in-App.ensures.typed)
    (told_some (symbols c.args.signature.now) (declared_metas c.args.metas.now) (scope c.type_under.new.binders.items) (tm c.deref-in-App-2.result.now) c.in_ok-argument-in-App.field-0 c.in-Some-2.argument c.in-Some-2.is c.in_ok-argument-in-App.ensures.typed)
    c.applied.ensures

pub type_of_meta-returns-in_ok-copy-clause-typed : goal.type_of_meta-returns-in_ok-copy-clause-typed
type_of_meta-returns-in_ok-copy-clause-typed t c =
    let found : slice_get c.args.metas.now c.args.meta ≡ Some c.in-Some.declared.now =
    subst (λ (ds : List MetaDecl). slice_get ds c.args.meta ≡ Some c.in-Some.declared.now) c.as_slice.ensures
    (slice_get_read c.as_slice.result.now (length c.as_slice.result.now) c.args.meta c.in-Some.declared.now refl c.in-Some.ensures.lookup.3.0 c.in-Some.ensures.lookup.1) in
    meta_answer (symbols c.args.signature.now) c.args.metas.now (scope c.args.binders.now.items) c.args.meta (tms c.args.items.now) c.in-Some.declared.now
    c.as_slice-kinds.result.now (ty c.in_ok-copy.field-0) found c.as_slice-kinds.ensures (c.in_ok-have_types.ensures.typed.0 c.if-branch.true) c.in_ok-copy.ensures

pub type_of_meta-returns-else-branch-clause-typed : goal.type_of_meta-returns-else-branch-clause-typed
type_of_meta-returns-else-branch-clause-typed t c =
    let found : slice_get c.args.metas.now c.args.meta ≡ Some c.in-Some.declared.now =
    subst (λ (ds : List MetaDecl). slice_get ds c.args.meta ≡ Some c.in-Some.declared.now) c.as_slice.ensures
    (slice_get_read c.as_slice.result.now (length c.as_slice.result.now) c.args.meta c.in-Some.declared.now refl c.in-Some.ensures.lookup.3.0 c.in-Some.ensures.lookup.1) in
    meta_none (symbols c.args.signature.now) c.args.metas.now (scope c.args.binders.now.items) c.args.meta (tms c.args.items.now) c.in-Some.declared.now
    c.as_slice-kinds.result.now found c.as_slice-kinds.ensures (λ all. let yes = c.in_ok-have_types.ensures.typed.1 all in cc (yes, c.if-branch.false))

pub type_of_abstraction-returns-in_ok-arrow-in-Some-clause-typed : goal.type_of_abstraction-returns-in_ok-arrow-in-Some-clause-typed
type_of_abstraction-returns-in_ok-arrow-in-Some-clause-typed t c =
    let inner = ap scope c.in_ok-push.ensures.items ∙ scope_push c.args.binders.now.items c.args.kind in
    lam_answer (symbols c.args.signature.now) (declared_metas c.args.metas.now) (scope c.args.binders.now.items) (scope c.push.new.self.items) (ty c.args.kind.now) (tm c.args.body.now) (ty c.in-Some.rest)
    (ty c.in_ok-arrow-in-Some.field-0) (c.has_sorts_below.ensures.0 c.if-not-has_sorts_below.false) inner
    (told_some (symbols c.args.signature.now) (declared_metas c.args.metas.now) (scope c.push.new.self.items) (tm c.args.body.now) c.in_ok-answer.answer c.in-Some.rest c.in-Some.is c.in_ok-answer.ensures.typed)
    (c.in_ok-arrow-in-Some.ensures ∙ ap (λ a. a ⇒ ty c.in-Some.rest) c.in_ok-copy-in-Some.ensures)

pub type_of_abstraction-returns-in-None-clause-typed : goal.type_of_abstraction-returns-in-None-clause-typed
type_of_abstraction-returns-in-None-clause-typed t c =
    let inner = ap scope c.in_ok-push.ensures.items ∙ scope_push c.args.binders.now.items c.args.kind in
    lam_none (symbols c.args.signature.now) (declared_metas c.args.metas.now) (scope c.args.binders.now.items) (scope c.push.new.self.items) (ty c.args.kind.now) (tm c.args.body.now) inner
    (told_none (symbols c.args.signature.now) (declared_metas c.args.metas.now) (scope c.push.new.self.items) (tm c.args.body.now) c.in_ok-answer.answer c.in-None.is c.in_ok-answer.ensures.typed)

pub have_types-returns-then-terms-kinds-clause-typed : goal.have_types-returns-then-terms-kinds-clause-typed
have_types-returns-then-terms-kinds-clause-typed t c =
    let back = subst (λ (xs : List Term). AllTyped (symbols c.args.signature.now) (declared_metas c.args.metas.now) (scope c.args.binders.now.items) (tms xs) (tys c.args.kinds.now))
    (sym c.as_slice-terms.ensures) in (
      λ no_way. cc,
      λ all. absurd (c.if-terms-kinds.true (all_length (symbols c.args.signature.now) (declared_metas c.args.metas.now) (scope c.args.binders.now.items)
          c.as_slice-terms.result.now c.args.kinds.now (back all))),
    )

pub have_types-loop-i-init : goal.have_types-loop-i-init
have_types-loop-i-init t c = (refl, typed_none)

pub have_types-type_under-requires : goal.have_types-type_under-requires
have_types-type_under-requires t c =
    (omega (arith, weight_in_item c.args.items.now c.as_slice-terms.result.now c.loop-i.i c.index-terms-i.result c.as_slice-terms.ensures c.loop-i-test.true c.index-terms-i.is), tt)

pub have_types-returns-in_default-clause-typed : goal.have_types-returns-in_default-clause-typed
have_types-returns-in_default-clause-typed t c =
    let back = subst (λ (xs : List Term). AllTyped (symbols c.args.signature.now) (declared_metas c.args.metas.now) (scope c.args.binders.now.items) (tms xs) (tys c.args.kinds.now)) (sym c.as_slice-terms.ensures) in
    let same = ap scope c.loop-i.invariant.0 in
    let here = told_none (symbols c.args.signature.now) (declared_metas c.args.metas.now) (scope c.loop-i.binders.items) (tm c.index-terms-i.result) c.in_ok-kind.field-0 c.in_default.is c.in_ok-kind.ensures.typed in (
      λ no_way. cc,
      λ all. absurd (lacks_type (symbols c.args.signature.now) (declared_metas c.args.metas.now) (scope c.args.binders.now.items) (scope c.loop-i.binders.items) c.as_slice-terms.result.now c.args.kinds.now c.loop-i.i c.index-terms-i.result c.loop-i-test.true
          c.if-terms-kinds.false c.index-terms-i.is same here (back all)),
    )

pub have_types-returns-then-not-same_type-clause-typed : goal.have_types-returns-then-not-same_type-clause-typed
have_types-returns-then-not-same_type-clause-typed t c =
    let back = subst (λ (xs : List Term). AllTyped (symbols c.args.signature.now) (declared_metas c.args.metas.now) (scope c.args.binders.now.items) (tms xs) (tys c.args.kinds.now)) (sym c.as_slice-terms.ensures) in
    let same = ap scope c.loop-i.invariant.0 in
    let here = told_some (symbols c.args.signature.now) (declared_metas c.args.metas.now) (scope c.loop-i.binders.items) (tm c.index-terms-i.result) c.in_ok-kind.field-0 c.in-Some.kind c.in-Some.is c.in_ok-kind.ensures.typed in (
      λ no_way. cc,
      λ all. absurd (all_none (symbols c.args.signature.now) (declared_metas c.args.metas.now) (scope c.args.binders.now.items) (scope c.loop-i.binders.items) c.as_slice-terms.result.now c.args.kinds.now c.loop-i.i c.index-terms-i.result c.index-kinds-i.result
          (ty c.in-Some.kind) c.loop-i-test.true c.if-terms-kinds.false c.index-terms-i.is c.index-kinds-i.is same here
          (λ e. let yes = c.if-not-same_type.ensures.1 e in cc yes) (back all)),
    )

pub have_types-loop-i-preserved : goal.have_types-loop-i-preserved
have_types-loop-i-preserved t c =
    let same = ap scope c.loop-i.invariant.0 in
    let here = told_some (symbols c.args.signature.now) (declared_metas c.args.metas.now) (scope c.loop-i.binders.items) (tm c.index-terms-i.result) c.in_ok-kind.field-0 c.in-Some.kind c.in-Some.is c.in_ok-kind.ensures.typed in (
      ◌∙◌ {A = List (Bor SimpleType)} c.in_ok-kind.ensures.kept c.loop-i.invariant.0,
      all_next (symbols c.args.signature.now) (declared_metas c.args.metas.now) (scope c.args.binders.now.items) (scope c.loop-i.binders.items) c.as_slice-terms.result.now c.args.kinds.now c.loop-i.i c.index-terms-i.result c.index-kinds-i.result (ty c.in-Some.kind)
          c.loop-i-test.true c.if-terms-kinds.false c.index-terms-i.is c.index-kinds-i.is same here (c.same_type.ensures.0 (search rules)) c.loop-i.invariant.1,
    )
