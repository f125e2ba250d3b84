-- The function, then argument by argument: a fault of a part is one of the whole, by its number.
use Rattle.std.proofs.Common.{rules, ◌≡◌, ◌+◌, ◌-◌, [], ◌∷◌, ◌++◌, map, length, refl, sym, subst, ◌∙◌, arith}
use Rattle.std.specs.Prelude.{Contains, IfOk}
use Rattle.std.proofs.lemmas.List.{length-map}
use Rattle.wh_types.specs.Erase.{ty}
use Rattle.wh_types.specs.Outcome.{IfBecause}
use Rattle.wh_poly.specs.Polynomials.{Polynomial}
use Rattle.wh_poly.specs.Arithmetic.{renumber}
use Rattle.wh_poly.specs.Excesses.{ExceedsAs}
use Rattle.wh_hopoly.specs.Evaluation.{one, symbol, apply, codomain}
use Rattle.wh_hopoly.specs.Outcomes.{PassesLimit, IsFaultOf, applied_to}
use Rattle.wh_hopoly.specs.NumberedParts.{own_values}
use Rattle.wh_hopoly.specs.Replacements.{apply_at}
use Rattle.wh_hopoly.specs.Valued.{Yields, IsValueOf, IsFaultFrom}
use Rattle.wh_poly.specs.Erase.{poly}
use Rattle.wh_hopoly.specs.Erase.{expression, interpretations}
use Rattle.wh_poly.proofs.FaultLaws.{ok_so, because_so, passed_on}
use Rattle.wh_hopoly.proofs.ValuedLaws.{reading_last, located_ok, located_fault, symbol_is, symbol_exceeds, typed_start, start_fault, application_typed, one_number, call_argument_fault, call_fault, calling_steps, calling_ends, function_normal, argument_normal, application_is, application_exceeds}
use Rattle.wh_hopoly.proofs.normalising.normal_call.Goals as goal

pub returns-in_err-value-clause-fault : goal.returns-in_err-value-clause-fault
returns-in_err-value-clause-fault c =
    let A = ty c.args.kind.now in
    let g = poly c.args.function.now in
    let S = interpretations c.args.symbols.now ++ record { kind = A; polynomial = g } ∷ [] in
    let Γ = map ty c.args.scope.now in
    let n = length c.args.symbols.now in
    let ds = map expression c.args.args.now in
    let known = typed_start S Γ (symbol n) ds c.requires.typed in
    let reading = reading_last c.args.symbols.now (record { kind = A; polynomial = g }) n (omega arith) known in
    let counted : c.in_ok-count.count ≡ length Γ = c.in_ok-count.ensures ∙ sym (length-map c.args.scope.now ty) in
    let number : c.in_ok-at.at ≡ length ds = c.in_ok-at.ensures ∙ sym (length-map c.args.args.now expression) in
    passed_on c.located.result c.from_residual-in_err-value.result c.in_err-value.field-0.0 (IsFaultFrom c.in_ok-at.at S Γ (symbol n)) (IsFaultOf S Γ (applied_to (symbol n) ds)) c.from_residual-in_err-value.ensures.1
    (subst (λ o. IfBecause o (IsFaultFrom c.in_ok-at.at S Γ (symbol n))) (sym c.in_err-value.ensures) (located_fault c.in_ok-at.at c.value_of_symbol.result S Γ (symbol n)
    (because_so c.value_of_symbol.result (PassesLimit (one (renumber (λ i. c.in_ok-count.count + i) g))) (λ x. (w : Polynomial) × Contains (own_values S Γ (symbol n)) w × ExceedsAs x w)
    (λ x. symbol_exceeds S Γ n c.in_ok-count.count A g x reading counted) c.value_of_symbol.ensures.fault)))
    (λ f. start_fault S Γ (symbol n) ds (applied_to (symbol n) ds) c.in_ok-at.at f refl number)

pub loop-arg-init : goal.loop-arg-init
loop-arg-init c =
    let A = ty c.args.kind.now in
    let g = poly c.args.function.now in
    let S = interpretations c.args.symbols.now ++ record { kind = A; polynomial = g } ∷ [] in
    let Γ = map ty c.args.scope.now in
    let n = length c.args.symbols.now in
    let ds = map expression c.args.args.now in
    let known = typed_start S Γ (symbol n) ds c.requires.typed in
    let reading = reading_last c.args.symbols.now (record { kind = A; polynomial = g }) n (omega arith) known in
    let counted : c.in_ok-count.count ≡ length Γ = c.in_ok-count.ensures ∙ sym (length-map c.args.scope.now ty) in
    let number : c.in_ok-at.at ≡ length ds = c.in_ok-at.ensures ∙ sym (length-map c.args.args.now expression) in
    let behind : c.in_ok-next.next ≡ c.in_ok-at.at + 1 = search rules in
    record {
      start = symbol n;
      same = refl;
      value = subst (λ o. IfOk o (IsValueOf S Γ (symbol n))) (sym c.in_ok-value.ensures) (located_ok c.in_ok-at.at c.value_of_symbol.result (IsValueOf S Γ (symbol n))
          (ok_so c.value_of_symbol.result (Yields (one (renumber (λ i. c.in_ok-count.count + i) g)) A) (IsValueOf S Γ (symbol n))
          (λ v. symbol_is S Γ n c.in_ok-count.count A g v reading counted) c.value_of_symbol.ensures.ok));
      numbered = omega (arith, behind, number);
      number = number;
    }

pub evaluate-requires-clause-typed : goal.evaluate-requires-clause-typed
evaluate-requires-clause-typed c =
    let S = interpretations c.args.symbols.now ++ record { kind = ty c.args.kind.now; polynomial = poly c.args.function.now } ∷ [] in
    let whole = applied_to (symbol (length c.args.symbols.now)) (map expression c.args.args.now) in
    (application_typed S c.requires.normal (map ty c.args.scope.now) whole c.requires.typed c.args.args.now c.loop-arg.arg-index c.arg-item.result c.loop-arg.value c.loop-arg.next c.loop-arg.at c.loop-arg.invariant
    c.loop-arg-test.true c.arg-item.is).1

pub returns-in_err-argument-clause-fault : goal.returns-in_err-argument-clause-fault
returns-in_err-argument-clause-fault c =
    let S = interpretations c.args.symbols.now ++ record { kind = ty c.args.kind.now; polynomial = poly c.args.function.now } ∷ [] in
    let Γ = map ty c.args.scope.now in
    let whole = applied_to (symbol (length c.args.symbols.now)) (map expression c.args.args.now) in
    passed_on c.evaluate.result c.from_residual-in_err-argument.result c.in_err-argument.field-0.0 (IsFaultFrom c.loop-arg.next S Γ (expression c.arg-item.result)) (IsFaultOf S Γ whole)
    c.from_residual-in_err-argument.ensures.1 c.in_err-argument.ensures.fault
    (call_argument_fault S c.requires.normal Γ whole c.requires.typed c.args.args.now c.loop-arg.arg-index c.arg-item.result c.loop-arg.value c.loop-arg.next c.loop-arg.at c.loop-arg.invariant
    c.loop-arg-test.true c.arg-item.is)

pub overflow_sub-at : goal.overflow_sub-at
overflow_sub-at c =
    let S = interpretations c.args.symbols.now ++ record { kind = ty c.args.kind.now; polynomial = poly c.args.function.now } ∷ [] in
    let whole = applied_to (symbol (length c.args.symbols.now)) (map expression c.args.args.now) in
    let n = one_number S c.requires.normal (map ty c.args.scope.now) whole c.requires.typed c.args.args.now c.loop-arg.arg-index c.arg-item.result c.loop-arg.value c.loop-arg.next c.loop-arg.at c.loop-arg.invariant
    c.loop-arg-test.true c.arg-item.is in
    omega (arith, n)

pub apply_valued-requires-clause-function : goal.apply_valued-requires-clause-function
apply_valued-requires-clause-function c =
    let S = interpretations c.args.symbols.now ++ record { kind = ty c.args.kind.now; polynomial = poly c.args.function.now } ∷ [] in
    let Γ = map ty c.args.scope.now in
    let whole = applied_to (symbol (length c.args.symbols.now)) (map expression c.args.args.now) in
    let typed = application_typed S c.requires.normal Γ whole c.requires.typed c.args.args.now c.loop-arg.arg-index c.arg-item.result c.loop-arg.value c.loop-arg.next c.loop-arg.at c.loop-arg.invariant
    c.loop-arg-test.true c.arg-item.is in
    function_normal S c.requires.normal Γ c.loop-arg.invariant.start (expression c.arg-item.result) typed c.loop-arg.value c.in_ok-argument.argument c.loop-arg.invariant.value c.in_ok-argument.ensures.ok.0

pub apply_valued-requires-clause-argument : goal.apply_valued-requires-clause-argument
apply_valued-requires-clause-argument c =
    let S = interpretations c.args.symbols.now ++ record { kind = ty c.args.kind.now; polynomial = poly c.args.function.now } ∷ [] in
    let Γ = map ty c.args.scope.now in
    let whole = applied_to (symbol (length c.args.symbols.now)) (map expression c.args.args.now) in
    let typed = application_typed S c.requires.normal Γ whole c.requires.typed c.args.args.now c.loop-arg.arg-index c.arg-item.result c.loop-arg.value c.loop-arg.next c.loop-arg.at c.loop-arg.invariant
    c.loop-arg-test.true c.arg-item.is in
    argument_normal S c.requires.normal Γ c.loop-arg.invariant.start (expression c.arg-item.result) typed c.loop-arg.value c.in_ok-argument.argument c.loop-arg.invariant.value c.in_ok-argument.ensures.ok.0

pub returns-in_err-value-2-clause-fault : goal.returns-in_err-value-2-clause-fault
returns-in_err-value-2-clause-fault c =
    let S = interpretations c.args.symbols.now ++ record { kind = ty c.args.kind.now; polynomial = poly c.args.function.now } ∷ [] in
    let Γ = map ty c.args.scope.now in
    let whole = applied_to (symbol (length c.args.symbols.now)) (map expression c.args.args.now) in
    let e = c.loop-arg.invariant.start in
    let d = expression c.arg-item.result in
    let f = c.loop-arg.value in
    let a = c.in_ok-argument.argument in
    let at = c.loop-arg.at - 1 in
    let typed = application_typed S c.requires.normal Γ whole c.requires.typed c.args.args.now c.loop-arg.arg-index c.arg-item.result f c.loop-arg.next c.loop-arg.at c.loop-arg.invariant
    c.loop-arg-test.true c.arg-item.is in
    passed_on c.located-in-loop-arg.result c.from_residual-in_err-value-2.result c.in_err-value-2.field-0.0 (IsFaultFrom at S Γ (apply e d)) (IsFaultOf S Γ whole) c.from_residual-in_err-value-2.ensures.1
    (subst (λ o. IfBecause o (IsFaultFrom at S Γ (apply e d))) (sym c.in_err-value-2.ensures) (located_fault at c.apply_valued.result S Γ (apply e d)
    (because_so c.apply_valued.result (PassesLimit (apply_at (ty f.kind) Γ (poly f.value) (poly a.value))) (λ x. (w : Polynomial) × Contains (own_values S Γ (apply e d)) w × ExceedsAs x w)
    (application_exceeds S c.requires.normal Γ e d typed f a c.loop-arg.invariant.value c.in_ok-argument.ensures.ok.0) c.apply_valued.ensures.fault)))
    (λ x. call_fault S c.requires.normal Γ whole c.requires.typed c.args.args.now c.loop-arg.arg-index c.arg-item.result f c.loop-arg.next c.loop-arg.at c.loop-arg.invariant
    c.loop-arg-test.true c.arg-item.is at x refl)

pub loop-arg-preserved : goal.loop-arg-preserved
loop-arg-preserved c =
    let S = interpretations c.args.symbols.now ++ record { kind = ty c.args.kind.now; polynomial = poly c.args.function.now } ∷ [] in
    let Γ = map ty c.args.scope.now in
    let whole = applied_to (symbol (length c.args.symbols.now)) (map expression c.args.args.now) in
    let e = c.loop-arg.invariant.start in
    let d = expression c.arg-item.result in
    let f = c.loop-arg.value in
    let a = c.in_ok-argument.argument in
    let at = c.loop-arg.at - 1 in
    let typed = application_typed S c.requires.normal Γ whole c.requires.typed c.args.args.now c.loop-arg.arg-index c.arg-item.result f c.loop-arg.next c.loop-arg.at c.loop-arg.invariant
    c.loop-arg-test.true c.arg-item.is in
    calling_steps S c.requires.normal Γ whole c.requires.typed c.args.args.now c.loop-arg.arg-index c.arg-item.result f c.loop-arg.next c.loop-arg.at c.loop-arg.invariant
    c.loop-arg-test.true c.arg-item.is c.in_ok-value-2.value c.evaluate.new.next at
    (subst (λ o. IfOk o (IsValueOf S Γ (apply e d))) (sym c.in_ok-value-2.ensures) (located_ok at c.apply_valued.result (IsValueOf S Γ (apply e d))
    (ok_so c.apply_valued.result (Yields (apply_at (ty f.kind) Γ (poly f.value) (poly a.value)) (codomain (ty f.kind))) (IsValueOf S Γ (apply e d))
    (application_is S c.requires.normal Γ e d typed f a c.loop-arg.invariant.value c.in_ok-argument.ensures.ok.0) c.apply_valued.ensures.ok)))
    c.in_ok-argument.ensures.ok.1 refl

pub returns-clause-ok : goal.returns-clause-ok
returns-clause-ok c =
    let S = interpretations c.args.symbols.now ++ record { kind = ty c.args.kind.now; polynomial = poly c.args.function.now } ∷ [] in
    let whole = applied_to (symbol (length c.args.symbols.now)) (map expression c.args.args.now) in
    calling_ends S (map ty c.args.scope.now) whole c.args.args.now c.loop-arg.arg-index c.loop-arg.value c.loop-arg.next c.loop-arg.at c.loop-arg.invariant c.loop-arg-test.false
