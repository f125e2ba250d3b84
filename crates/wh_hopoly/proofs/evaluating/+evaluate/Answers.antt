-- A part's fault is one of the whole, by its number; an application's own values are those of its replacements.
use Rattle.std.proofs.Common.{◌≡◌, ◌+◌, [], ◌∷◌, ◌++◌, sym, subst, arith}
use Rattle.std.specs.Prelude.{IfOk}
use Rattle.wh_types.specs.Erase.{ty}
use Rattle.wh_types.specs.Outcome.{IfBecause}
use Rattle.wh_hopoly.specs.Evaluation.{lambda, apply, codomain}
use Rattle.wh_hopoly.specs.Outcomes.{PassesLimit}
use Rattle.wh_hopoly.specs.NumberedParts.{parts}
use Rattle.wh_hopoly.specs.Replacements.{apply_at}
use Rattle.wh_hopoly.specs.Scopes.{scope_of}
use Rattle.wh_hopoly.specs.Valued.{readings, Yields, IsValueOf, IsFaultFrom}
use Rattle.wh_poly.specs.Erase.{poly}
use Rattle.wh_hopoly.specs.Erase.{expression}
use Rattle.wh_hopoly.specs.NumberedParts.{own_values}
use Rattle.wh_poly.specs.Excesses.{ExceedsAs}
use Rattle.wh_poly.specs.Polynomials.{Polynomial}
use Rattle.wh_hopoly.specs.declared.valued.Valued.{Valued}
use Rattle.std.specs.Prelude.{Contains}
use Rattle.wh_poly.proofs.FaultLaws.{ok_so, because_so, passed_on}
use Rattle.wh_hopoly.proofs.ValuedLaws.{located_ok, located_fault, fault_embeds, body_embeds, function_embeds, argument_embeds, function_normal, argument_normal, application_is, application_exceeds}
use Rattle.wh_hopoly.proofs.evaluating.+evaluate.Goals as goal

pub evaluate_abstraction-returns-in_err-value-clause-fault : goal.evaluate_abstraction-returns-in_err-value-clause-fault
evaluate_abstraction-returns-in_err-value-clause-fault t c =
    let S = readings c.args.setting.now.table in
    let Γ = scope_of c.args.setting.now.scope in
    let A = ty c.args.kind.now in
    let e = expression c.args.body.now in
    passed_on c.evaluate.result c.from_residual-in_err-value.result c.in_err-value.field-0.0 (IsFaultFrom c.args.next.now S (Γ ++ A ∷ []) e) (IsFaultFrom c.args.at S Γ (lambda A e))
    c.from_residual-in_err-value.ensures.1 c.in_err-value.ensures.fault
    (fault_embeds c.args.next.now c.args.at 1 S (Γ ++ A ∷ []) Γ e (lambda A e) c.requires.numbered (body_embeds S Γ A e))

pub evaluate_application-returns-in_err-applied-clause-fault : goal.evaluate_application-returns-in_err-applied-clause-fault
evaluate_application-returns-in_err-applied-clause-fault t c =
    let S = readings c.args.setting.now.table in
    let Γ = scope_of c.args.setting.now.scope in
    let e = expression c.args.function.now in
    let d = expression c.args.argument.now in
    passed_on c.evaluate.result c.from_residual.result c.in_err-applied.field-0.0 (IsFaultFrom c.args.next.now S Γ e) (IsFaultFrom c.args.at S Γ (apply e d))
    c.from_residual.ensures.1 c.in_err-applied.ensures.fault
    (fault_embeds c.args.next.now c.args.at 1 S Γ Γ e (apply e d) c.requires.numbered (function_embeds S Γ e d))

pub evaluate_application-returns-in_err-passed-clause-fault : goal.evaluate_application-returns-in_err-passed-clause-fault
evaluate_application-returns-in_err-passed-clause-fault t c =
    let S = readings c.args.setting.now.table in
    let Γ = scope_of c.args.setting.now.scope in
    let e = expression c.args.function.now in
    let d = expression c.args.argument.now in
    let numbered : c.evaluate.new.next ≡ c.args.at + (1 + parts e) = (let n = c.requires.numbered in let m = c.in_ok-applied.ensures.ok.1 in omega (arith, n, m)) in
    passed_on c.evaluate-2.result c.from_residual-in_err-passed.result c.in_err-passed.field-0.0 (IsFaultFrom c.evaluate.new.next S Γ d) (IsFaultFrom c.args.at S Γ (apply e d))
    c.from_residual-in_err-passed.ensures.1 c.in_err-passed.ensures.fault
    (fault_embeds c.evaluate.new.next c.args.at (1 + parts e) S Γ Γ d (apply e d) numbered (argument_embeds S Γ e d))

pub evaluate_application-apply_valued-requires-clause-function : goal.evaluate_application-apply_valued-requires-clause-function
evaluate_application-apply_valued-requires-clause-function t c =
    function_normal (readings c.args.setting.now.table) c.requires.normal (scope_of c.args.setting.now.scope) (expression c.args.function.now) (expression c.args.argument.now) c.requires.typed
    c.in_ok-applied.applied c.in_ok-passed.passed c.in_ok-applied.ensures.ok.0 c.in_ok-passed.ensures.ok.0

pub evaluate_application-apply_valued-requires-clause-argument : goal.evaluate_application-apply_valued-requires-clause-argument
evaluate_application-apply_valued-requires-clause-argument t c =
    argument_normal (readings c.args.setting.now.table) c.requires.normal (scope_of c.args.setting.now.scope) (expression c.args.function.now) (expression c.args.argument.now) c.requires.typed
    c.in_ok-applied.applied c.in_ok-passed.passed c.in_ok-applied.ensures.ok.0 c.in_ok-passed.ensures.ok.0

pub evaluate_application-returns-clause-ok : goal.evaluate_application-returns-clause-ok
evaluate_application-returns-clause-ok t c =
    let S = readings c.args.setting.now.table in
    let Γ = scope_of c.args.setting.now.scope in
    let e = expression c.args.function.now in
    let d = expression c.args.argument.now in
    let f = c.in_ok-applied.applied in
    let a = c.in_ok-passed.passed in
    let P = λ (r : Valued). IsValueOf S Γ (apply e d) r × (c.evaluate-2.new.next ≡ c.args.next.now + (parts e + parts d)) in
    subst (λ o. IfOk o P) (sym c.located.ensures) (located_ok c.args.at c.apply_valued.result P
    (ok_so c.apply_valued.result (Yields (apply_at (ty f.kind) Γ (poly f.value) (poly a.value)) (codomain (ty f.kind))) P
    (λ r h. (
      application_is S c.requires.normal Γ e d c.requires.typed f a c.in_ok-applied.ensures.ok.0 c.in_ok-passed.ensures.ok.0 r h,
      (let n = c.in_ok-applied.ensures.ok.1 in let m = c.in_ok-passed.ensures.ok.1 in omega (arith, n, m)),
    )) c.apply_valued.ensures.ok))

pub evaluate_application-returns-clause-fault : goal.evaluate_application-returns-clause-fault
evaluate_application-returns-clause-fault t c =
    let S = readings c.args.setting.now.table in
    let Γ = scope_of c.args.setting.now.scope in
    let e = expression c.args.function.now in
    let d = expression c.args.argument.now in
    let f = c.in_ok-applied.applied in
    let a = c.in_ok-passed.passed in
    subst (λ o. IfBecause o (IsFaultFrom c.args.at S Γ (apply e d))) (sym c.located.ensures) (located_fault c.args.at c.apply_valued.result S Γ (apply e d)
    (because_so c.apply_valued.result (PassesLimit (apply_at (ty f.kind) Γ (poly f.value) (poly a.value))) (λ x. (w : Polynomial) × Contains (own_values S Γ (apply e d)) w × ExceedsAs x w)
    (application_exceeds S c.requires.normal Γ e d c.requires.typed f a c.in_ok-applied.ensures.ok.0 c.in_ok-passed.ensures.ok.0) c.apply_valued.ensures.fault))
