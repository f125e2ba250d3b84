-- The mark stands alone behind the symbols, where its call comes to the same as among all marks.
use Rattle.std.proofs.Common.{◌≡◌, [], ◌∷◌, ◌++◌, length, map, ap, sym, ◌∙◌, subst, IfOk, rules}
use Rattle.std.proofs.lemmas.List.{length-map}
use Rattle.wh_types.specs.Erase.{ty}
use Rattle.wh_types.specs.Ty.{Ty}
use Rattle.wh_types.specs.Outcome.{IfBecause}
use Rattle.wh_system.specs.SystemView.{system_data}
use Rattle.wh_poly.specs.Erase.{poly}
use Rattle.wh_hopoly.specs.Erase.{expression, interpretation, interpretations}
use Rattle.wh_hopoly.specs.Evaluation.{Interpretation, evaluate, TypedExpression}
use Rattle.wh_hopoly.specs.Outcomes.{ComesTo, IsFaultOf}
use Rattle.wh_polycheck.specs.Marks.{marked_interpretation}
use Rattle.wh_polycheck.specs.SideResults.{mark, marks_of}
use Rattle.wh_polycheck.proofs.MarkedSides.{alone_normal}
use Rattle.wh_intern.specs.TableTrees.{trees}
use Rattle.wh_intern.specs.Trees.{tree_at}
use Rattle.wh_intern_pairs.proofs.ExpressionsByNumber.{call_told}
use Rattle.wh_intern_pairs.proofs.MarkedByNumber.{scope_counted, call_typed, call_comes, call_fault}
use Rattle.wh_intern_pairs.proofs.polynomials.normal_of_marked.Goals as goal

pub normal_call-requires-clause-typed : goal.normal_call-requires-clause-typed
normal_call-requires-clause-typed c =
    let d = system_data c.args.system.now in
    let symbols = interpretations c.args.readings.now.symbols.now in
    let Γ = map ty c.args.scope.now in
    let us = map (tree_at (trees c.args.table.now)) c.args.numbers.now in
    let a : Interpretation = record { kind = ty c.in_ok-kind.kind; polynomial = poly c.mark_of-mark.result.now.poly } in
    let is : a ≡ marked_interpretation d.symbols d.rules (mark c.mark_of-mark.result.now) =
    ap (λ (k : Ty). record { kind = k; polynomial = poly c.mark_of-mark.result.now.poly }) c.in_ok-kind.ensures in
    let count : c.in_ok-counted.field-0 ≡ length c.args.scope.now = search rules in
    let whole = call_told Γ c.in_ok-counted.field-0 (length c.args.readings.now.symbols.now) (length symbols) (trees c.args.table.now) c.args.numbers.now
    (map expression c.as_slice.result.now) (scope_counted c.args.scope.now c.in_ok-counted.field-0 count)
    (ap (map expression) c.as_slice.ensures.value ∙ c.in_ok-args.ensures) (sym (length-map c.args.readings.now.symbols.now interpretation)) in
    subst (TypedExpression (symbols ++ a ∷ []) Γ) (sym whole)
    (call_typed d.symbols d.rules symbols c.requires.proper.interpreted (marks_of c.args.readings.now.marks.now) c.args.fun (mark c.mark_of-mark.result.now)
    c.mark_of-mark.ensures c.requires.marked a is Γ us c.requires.typed)

pub normal_call-requires-clause-normal : goal.normal_call-requires-clause-normal
normal_call-requires-clause-normal c =
    let d = system_data c.args.system.now in
    let symbols = interpretations c.args.readings.now.symbols.now in
    let a : Interpretation = record { kind = ty c.in_ok-kind.kind; polynomial = poly c.mark_of-mark.result.now.poly } in
    let is : a ≡ marked_interpretation d.symbols d.rules (mark c.mark_of-mark.result.now) =
    ap (λ (k : Ty). record { kind = k; polynomial = poly c.mark_of-mark.result.now.poly }) c.in_ok-kind.ensures in
    alone_normal d.symbols d.rules symbols c.requires.proper.interpreted (marks_of c.args.readings.now.marks.now) c.args.fun (mark c.mark_of-mark.result.now)
    c.mark_of-mark.ensures c.requires.marked a is c.requires.proper.normal.symbols c.requires.proper.normal.marks

pub returns-clause-ok : goal.returns-clause-ok
returns-clause-ok c =
    let d = system_data c.args.system.now in
    let symbols = interpretations c.args.readings.now.symbols.now in
    let Γ = map ty c.args.scope.now in
    let us = map (tree_at (trees c.args.table.now)) c.args.numbers.now in
    let a : Interpretation = record { kind = ty c.in_ok-kind.kind; polynomial = poly c.mark_of-mark.result.now.poly } in
    let is : a ≡ marked_interpretation d.symbols d.rules (mark c.mark_of-mark.result.now) =
    ap (λ (k : Ty). record { kind = k; polynomial = poly c.mark_of-mark.result.now.poly }) c.in_ok-kind.ensures in
    let count : c.in_ok-counted.field-0 ≡ length c.args.scope.now = search rules in
    let whole = call_told Γ c.in_ok-counted.field-0 (length c.args.readings.now.symbols.now) (length symbols) (trees c.args.table.now) c.args.numbers.now
    (map expression c.as_slice.result.now) (scope_counted c.args.scope.now c.in_ok-counted.field-0 count)
    (ap (map expression) c.as_slice.ensures.value ∙ c.in_ok-args.ensures) (sym (length-map c.args.readings.now.symbols.now interpretation)) in
    call_comes d.symbols d.rules symbols c.requires.proper.interpreted (marks_of c.args.readings.now.marks.now) c.args.fun (mark c.mark_of-mark.result.now)
    c.mark_of-mark.ensures c.requires.marked a is Γ us c.requires.typed c.normal_call.result
    (subst (λ e. IfOk c.normal_call.result (λ p. ComesTo (evaluate (symbols ++ a ∷ []) Γ e) (poly p))) whole c.normal_call.ensures.ok)

pub returns-clause-fault : goal.returns-clause-fault
returns-clause-fault c =
    let d = system_data c.args.system.now in
    let symbols = interpretations c.args.readings.now.symbols.now in
    let Γ = map ty c.args.scope.now in
    let us = map (tree_at (trees c.args.table.now)) c.args.numbers.now in
    let a : Interpretation = record { kind = ty c.in_ok-kind.kind; polynomial = poly c.mark_of-mark.result.now.poly } in
    let is : a ≡ marked_interpretation d.symbols d.rules (mark c.mark_of-mark.result.now) =
    ap (λ (k : Ty). record { kind = k; polynomial = poly c.mark_of-mark.result.now.poly }) c.in_ok-kind.ensures in
    let count : c.in_ok-counted.field-0 ≡ length c.args.scope.now = search rules in
    let whole = call_told Γ c.in_ok-counted.field-0 (length c.args.readings.now.symbols.now) (length symbols) (trees c.args.table.now) c.args.numbers.now
    (map expression c.as_slice.result.now) (scope_counted c.args.scope.now c.in_ok-counted.field-0 count)
    (ap (map expression) c.as_slice.ensures.value ∙ c.in_ok-args.ensures) (sym (length-map c.args.readings.now.symbols.now interpretation)) in
    call_fault d.symbols d.rules symbols c.requires.proper.interpreted (marks_of c.args.readings.now.marks.now) c.args.fun (mark c.mark_of-mark.result.now)
    c.mark_of-mark.ensures c.requires.marked a is Γ us c.requires.typed c.normal_call.result
    (subst (λ e. IfBecause c.normal_call.result (IsFaultOf (symbols ++ a ∷ []) Γ e)) whole c.normal_call.ensures.fault)
