use Rattle.std.proofs.Common.{◌≡◌, ◌∷◌, ◌<◌, ap, ap₂, refl, ◌∙◌, sym, arith}
use Rattle.wh_types.specs.Erase.{ty}
use Rattle.wh_terms.specs.Tree.{free, lam, app}
use Rattle.wh_terms.specs.Erase.{tm, tms, symbols, declared_metas}
use Rattle.wh_terms.specs.Measures.{size, sizes}
use Rattle.wh_terms.specs.Scope.{scope}
use Rattle.wh_terms.proofs.TermLemmas.{weight_in_meta, weight_in_item}
use Rattle.wh_terms.proofs.TypeWalk.{scope_push}
use Rattle.wh_order_extended.specs.Long.{core, cores, long}
use Rattle.wh_order_sides.specs.Growth.{argued}
use Rattle.wh_order_sides.specs.Room.{IsBuilt, AreBuilt}
use Rattle.wh_order_sides.proofs.BuildLemmas.{passed_on, long_wide, argument_wide, bound_built, free_built, fun_built, meta_built, meta_wide, lam_built, lam_wide, app_built, app_wide_front, app_wide, none_built, more_built, more_wide}
use Rattle.wh_order_sides.proofs.building.+building.Goals as goal

pub long_under-returns-in_err-spine-clause-built : goal.long_under-returns-in_err-spine-clause-built
long_under-returns-in_err-spine-clause-built t c =
    let S = symbols c.args.signature.now in
    let M = declared_metas c.args.metas.now in
    let Γ = scope c.args.binders.now.items in
    let v = tm c.args.term.now in
    passed_on c.from_residual.result c.in_err-spine.field-0.0 (IsBuilt c.args.room (core S M Γ v)) (IsBuilt c.args.room (long S M Γ v))
    (c.args.room < size (core S M Γ v)) (c.args.room < size (long S M Γ v)) c.from_residual.ensures.1 c.in_err-spine.ensures.built (long_wide S M Γ c.args.room v)

pub argument_under-returns-in_err-spine-clause-built : goal.argument_under-returns-in_err-spine-clause-built
argument_under-returns-in_err-spine-clause-built t c =
    let S = symbols c.args.signature.now in
    let M = declared_metas c.args.metas.now in
    let Γ = scope c.args.binders.now.items in
    let v = tm c.args.term.now in
    passed_on c.from_residual.result c.in_err-spine.field-0.0 (IsBuilt c.args.room (core S M Γ v)) (IsBuilt c.args.room (argued S M Γ v))
    (c.args.room < size (core S M Γ v)) (c.args.room < size (argued S M Γ v)) c.from_residual.ensures.1 c.in_err-spine.ensures.built (argument_wide S M Γ c.args.room v)

pub core_under-returns-in-Bound-clause-built : goal.core_under-returns-in-Bound-clause-built
core_under-returns-in-Bound-clause-built t c =
    bound_built (symbols c.args.signature.now) (declared_metas c.args.metas.now) (scope c.args.binders.now.items) c.args.room (tm c.args.term.now)
    c.in-Bound.number _ (ap tm c.in-Bound.is) refl c.in_ok-rest.ensures

pub core_under-returns-in_ok-copy-in-Free-clause-built : goal.core_under-returns-in_ok-copy-in-Free-clause-built
core_under-returns-in_ok-copy-in-Free-clause-built t c =
    free_built (symbols c.args.signature.now) (declared_metas c.args.metas.now) (scope c.args.binders.now.items) c.args.room (tm c.args.term.now)
    c.in-Free.number (ty c.in-Free.kind) _ (ap tm c.in-Free.is) (ap (free c.in-Free.number) c.in_ok-copy-in-Free.ensures) c.in_ok-rest.ensures

pub core_under-returns-in-Fun-clause-built : goal.core_under-returns-in-Fun-clause-built
core_under-returns-in-Fun-clause-built t c =
    fun_built (symbols c.args.signature.now) (declared_metas c.args.metas.now) (scope c.args.binders.now.items) c.args.room (tm c.args.term.now)
    c.in-Fun.symbol _ (ap tm c.in-Fun.is) refl c.in_ok-rest.ensures

pub core_under-cores_under-requires : goal.core_under-cores_under-requires
core_under-cores_under-requires t c = (omega (arith, weight_in_meta c.args.term.now c.in-Meta.meta c.in-Meta.items c.in-Meta.is), tt)

pub core_under-returns-in_err-items-in-Meta-clause-built : goal.core_under-returns-in_err-items-in-Meta-clause-built
core_under-returns-in_err-items-in-Meta-clause-built t c =
    let S = symbols c.args.signature.now in
    let M = declared_metas c.args.metas.now in
    let Γ = scope c.args.binders.now.items in
    let v = tm c.args.term.now in
    let us = cores S M Γ (tms c.in-Meta.items) in
    passed_on c.from_residual-in_err-items-in-Meta.result c.in_err-items-in-Meta.field-0.0 (AreBuilt c.in_ok-rest.rest us) (IsBuilt c.args.room (core S M Γ v))
    (c.in_ok-rest.rest < sizes us) (c.args.room < size (core S M Γ v)) c.from_residual-in_err-items-in-Meta.ensures.1 c.in_err-items-in-Meta.ensures.built
    (meta_wide S M Γ c.args.room c.in_ok-rest.rest c.args.term.now c.in-Meta.meta c.in-Meta.items c.in-Meta.is c.in_ok-rest.ensures)

pub core_under-returns-in_ok-items-in-Meta-clause-built : goal.core_under-returns-in_ok-items-in-Meta-clause-built
core_under-returns-in_ok-items-in-Meta-clause-built t c =
    meta_built (symbols c.args.signature.now) (declared_metas c.args.metas.now) (scope c.args.binders.now.items) c.args.room c.in_ok-rest.rest
    c.args.term.now c.in-Meta.meta c.in-Meta.items c.in_ok-items-in-Meta.items _ c.in-Meta.is c.in_ok-rest.ensures c.in_ok-items-in-Meta.ensures.built refl refl

pub core_under-returns-in_err-body-in-Lam-clause-built : goal.core_under-returns-in_err-body-in-Lam-clause-built
core_under-returns-in_err-body-in-Lam-clause-built t c =
    let S = symbols c.args.signature.now in
    let M = declared_metas c.args.metas.now in
    let Γ = scope c.args.binders.now.items in
    let Δ = scope c.push.new.self.items in
    let v = tm c.args.term.now in
    let u = tm c.deref.result.now in
    let inner : Δ ≡ ty c.in-Lam.kind ∷ Γ = ap scope c.in_ok-push-in-Lam.ensures.items ∙ scope_push c.args.binders.now.items _ in
    let e : v ≡ lam (ty c.in-Lam.kind) u = ap tm c.in-Lam.is ∙ ap (λ b. lam (ty c.in-Lam.kind) (tm b)) (sym c.deref.ensures) in
    passed_on c.from_residual-in_err-body-in-Lam.result c.in_err-body-in-Lam.field-0.0 (IsBuilt c.in_ok-rest.rest (long S M Δ u)) (IsBuilt c.args.room (core S M Γ v))
    (c.in_ok-rest.rest < size (long S M Δ u)) (c.args.room < size (core S M Γ v)) c.from_residual-in_err-body-in-Lam.ensures.1 c.in_err-body-in-Lam.ensures.built
    (lam_wide S M Γ Δ c.args.room c.in_ok-rest.rest v (ty c.in-Lam.kind) u e inner c.in_ok-rest.ensures)

pub core_under-returns-in_err-function-in-App-clause-built : goal.core_under-returns-in_err-function-in-App-clause-built
core_under-returns-in_err-function-in-App-clause-built t c =
    let S = symbols c.args.signature.now in
    let M = declared_metas c.args.metas.now in
    let Γ = scope c.args.binders.now.items in
    let v = tm c.args.term.now in
    let f = tm c.deref-in-App.result.now in
    let e : v ≡ app f (tm c.in-App.argument.value) = ap tm c.in-App.is ∙ ap (λ b. app (tm b) (tm c.in-App.argument.value)) (sym c.deref-in-App.ensures) in
    passed_on c.from_residual-in_err-function-in-App.result c.in_err-function-in-App.field-0.0 (IsBuilt c.in_ok-rest.rest (core S M Γ f)) (IsBuilt c.args.room (core S M Γ v))
    (c.in_ok-rest.rest < size (core S M Γ f)) (c.args.room < size (core S M Γ v)) c.from_residual-in_err-function-in-App.ensures.1 c.in_err-function-in-App.ensures.built
    (app_wide_front S M Γ c.args.room c.in_ok-rest.rest v f (tm c.in-App.argument.value) e c.in_ok-rest.ensures)

pub core_under-returns-in_err-argument-in-App-clause-built : goal.core_under-returns-in_err-argument-in-App-clause-built
core_under-returns-in_err-argument-in-App-clause-built t c =
    let S = symbols c.args.signature.now in
    let M = declared_metas c.args.metas.now in
    let Γ = scope c.args.binders.now.items in
    let Δ = scope c.core_under.new.binders.items in
    let v = tm c.args.term.now in
    let f = tm c.deref-in-App.result.now in
    let u = tm c.deref-in-App-2.result.now in
    let b = c.in_ok-function-in-App.function in
    let e : v ≡ app f u = ap tm c.in-App.is ∙ ap₂ (λ p q. app (tm p) (tm q)) (sym c.deref-in-App.ensures) (sym c.deref-in-App-2.ensures) in
    passed_on c.from_residual-in_err-argument-in-App.result c.in_err-argument-in-App.field-0.0 (IsBuilt b.room (long S M Δ u)) (IsBuilt c.args.room (core S M Γ v))
    (b.room < size (long S M Δ u)) (c.args.room < size (core S M Γ v)) c.from_residual-in_err-argument-in-App.ensures.1 c.in_err-argument-in-App.ensures.built
    (app_wide S M Γ Δ c.args.room c.in_ok-rest.rest v f u b e (ap scope c.in_ok-function-in-App.ensures.kept) c.in_ok-rest.ensures c.in_ok-function-in-App.ensures.built)

pub cores_under-loop-item-init : goal.cores_under-loop-item-init
cores_under-loop-item-init t c = record {
  kept = refl;
  built = none_built (symbols c.args.signature.now) (declared_metas c.args.metas.now) (scope c.args.binders.now.items) c.args.room c.new-results.result c.new-results.ensures;
}

pub cores_under-argument_under-requires : goal.cores_under-argument_under-requires
cores_under-argument_under-requires t c = (
  omega (arith, weight_in_item c.args.items.now c.as_slice-item-items.result.now c.loop-item.item-index c.item-item.result c.as_slice-item-items.ensures c.loop-item-test.true c.item-item.is),
  tt,
)

pub cores_under-returns-in_err-argument-clause-built : goal.cores_under-returns-in_err-argument-clause-built
cores_under-returns-in_err-argument-clause-built t c =
    let S = symbols c.args.signature.now in
    let M = declared_metas c.args.metas.now in
    let Γ = scope c.args.binders.now.items in
    let Δ = scope c.loop-item.binders.items in
    let here = argued S M Δ (tm c.item-item.result) in
    let all = cores S M Γ (tms c.args.items.now) in
    passed_on c.from_residual.result c.in_err-argument.field-0.0 (IsBuilt c.loop-item.left here) (AreBuilt c.args.room all)
    (c.loop-item.left < size here) (c.args.room < sizes all) c.from_residual.ensures.1 c.in_err-argument.ensures.built
    (more_wide S M Γ Δ c.args.room c.loop-item.left c.as_slice-item-items.result.now c.args.items.now c.loop-item.results c.loop-item.item-index c.item-item.result
    c.as_slice-item-items.ensures c.loop-item-test.true c.item-item.is (ap scope c.loop-item.invariant.kept) c.loop-item.invariant.built)

pub cores_under-loop-item-preserved : goal.cores_under-loop-item-preserved
cores_under-loop-item-preserved t c =
    let Δ = scope c.loop-item.binders.items in
    record {
      kept = c.in_ok-argument.ensures.kept ∙ c.loop-item.invariant.kept;
      built = more_built (symbols c.args.signature.now) (declared_metas c.args.metas.now) (scope c.args.binders.now.items) Δ c.args.room c.loop-item.left
          c.as_slice-item-items.result.now c.loop-item.results c.push.new.self c.loop-item.item-index c.item-item.result c.in_ok-argument.argument c.loop-item-test.true
          c.item-item.is (ap scope c.loop-item.invariant.kept) c.loop-item.invariant.built c.in_ok-argument.ensures.built c.in_ok-push.ensures.ok;
    }

pub core_under-returns-in_ok-new-in-Lam-clause-built : goal.core_under-returns-in_ok-new-in-Lam-clause-built
core_under-returns-in_ok-new-in-Lam-clause-built t c =
    let Γ = scope c.args.binders.now.items in
    let Δ = scope c.push.new.self.items in
    let v = tm c.args.term.now in
    let u = tm c.deref.result.now in
    let inner : Δ ≡ ty c.in-Lam.kind ∷ Γ = ap scope c.in_ok-push-in-Lam.ensures.items ∙ scope_push c.args.binders.now.items _ in
    let e : v ≡ lam (ty c.in-Lam.kind) u = ap tm c.in-Lam.is ∙ ap (λ b. lam (ty c.in-Lam.kind) (tm b)) (sym c.deref.ensures) in
    lam_built (symbols c.args.signature.now) (declared_metas c.args.metas.now) Γ Δ c.args.room c.in_ok-rest.rest v (ty c.in-Lam.kind) u c.in_ok-body-in-Lam.body _
    e inner c.in_ok-rest.ensures c.in_ok-body-in-Lam.ensures.built (ap₂ lam c.in_ok-kind-in-Lam.ensures (ap tm c.in_ok-new-in-Lam.ensures.ok)) refl

pub core_under-returns-in_ok-new-in-App-clause-built : goal.core_under-returns-in_ok-new-in-App-clause-built
core_under-returns-in_ok-new-in-App-clause-built t c =
    let Δ = scope c.core_under.new.binders.items in
    let v = tm c.args.term.now in
    let f = tm c.deref-in-App.result.now in
    let u = tm c.deref-in-App-2.result.now in
    let e : v ≡ app f u = ap tm c.in-App.is ∙ ap₂ (λ p q. app (tm p) (tm q)) (sym c.deref-in-App.ensures) (sym c.deref-in-App-2.ensures) in
    app_built (symbols c.args.signature.now) (declared_metas c.args.metas.now) (scope c.args.binders.now.items) Δ c.args.room c.in_ok-rest.rest v f u
    c.in_ok-function-in-App.function c.in_ok-argument-in-App.argument _ e (ap scope c.in_ok-function-in-App.ensures.kept) c.in_ok-rest.ensures
    c.in_ok-function-in-App.ensures.built c.in_ok-argument-in-App.ensures.built
    (ap₂ (λ p q. app (tm p) (tm q)) c.in_ok-front-in-App.ensures.ok c.in_ok-new-in-App.ensures.ok) refl
