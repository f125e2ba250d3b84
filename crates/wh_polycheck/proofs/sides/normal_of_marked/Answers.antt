-- The mark stands alone behind the symbols, where its call comes to the same as among all marks.
use Rattle.std.proofs.Common.{◌≡◌, [], ◌∷◌, ◌++◌, length, map, ap, sym, ◌∙◌, IfOk, rules}
use Rattle.std.proofs.lemmas.List.{length-map}
use Rattle.std.proofs.lemmas.Result.{IfOk-weaker}
use mathlib.Core.Path.{subst₂}
use Rattle.wh_types.specs.Erase.{ty}
use Rattle.wh_types.specs.Ty.{Ty}
use Rattle.wh_types.specs.Outcome.{IfBecause}
use Rattle.wh_terms.specs.Tree.{tms_of}
use Rattle.wh_terms.specs.Erase.{tm, declared_metas}
use Rattle.wh_system.specs.SystemView.{system_data}
use Rattle.wh_poly.specs.Erase.{poly}
use Rattle.wh_hopoly.specs.Erase.{expression, interpretation, interpretations}
use Rattle.wh_hopoly.specs.Evaluation.{Interpretation, evaluate, TypedExpression}
use Rattle.wh_hopoly.specs.Outcomes.{ComesTo, IsFaultOf}
use Rattle.wh_polycheck.specs.Sides.{types_of_metas, marked_expression}
use Rattle.wh_polycheck.specs.Marks.{with_marks, mark_number, marked_interpretation}
use Rattle.wh_polycheck.specs.SideResults.{mark, marks_of}
use Rattle.wh_polycheck.proofs.Alike.{comes_to_alike, fault_alike}
use Rattle.wh_polycheck.proofs.MarkedSides.{alone_alike, alone_typed, alone_normal}
use Rattle.wh_polycheck.proofs.SideFacts.{cause_so, call_told, scope_counted}
use Rattle.wh_polycheck.proofs.sides.normal_of_marked.Goals as goal

pub normal_call-requires-clause-typed : goal.normal_call-requires-clause-typed
normal_call-requires-clause-typed c =
    let d = system_data c.args.system.now in
    let symbols = interpretations c.args.readings.now.symbols.now in
    let M = declared_metas c.args.metas.now in
    let a : Interpretation = record { kind = ty c.in_ok-kind.kind; polynomial = poly c.mark_of-mark.result.now.poly } in
    let is : a ≡ marked_interpretation d.symbols d.rules (mark c.mark_of-mark.result.now) =
    ap (λ (k : Ty). record { kind = k; polynomial = poly c.mark_of-mark.result.now.poly }) c.in_ok-kind.ensures in
    let scope : map ty c.as_slice-2.result.now ≡ types_of_metas M = ap (map ty) c.as_slice-2.ensures.value ∙ c.in_ok-scope.ensures in
    let count : c.in_ok-counted.field-0 ≡ length c.as_slice-2.result.now = search rules in
    let long = scope_counted c.as_slice-2.result.now (types_of_metas M) c.in_ok-counted.field-0 scope count in
    let whole = call_told M c.in_ok-counted.field-0 (length c.args.readings.now.symbols.now) (length symbols) c.args.terms.now
    (map expression c.as_slice.result.now) long (ap (map expression) c.as_slice.ensures.value ∙ c.in_ok-args.ensures)
    (sym (length-map c.args.readings.now.symbols.now interpretation)) in
    subst₂ (TypedExpression (symbols ++ a ∷ [])) (sym scope) (sym whole)
    (alone_typed d.symbols d.rules symbols c.requires.proper.interpreted (marks_of c.args.readings.now.marks.now) c.args.fun (mark c.mark_of-mark.result.now)
    c.mark_of-mark.ensures c.requires.marked a is M (tms_of (map tm c.args.terms.now)) c.requires.typed c.requires.closed)

pub normal_call-requires-clause-normal : goal.normal_call-requires-clause-normal
normal_call-requires-clause-normal c =
    let d = system_data c.args.system.now in
    let symbols = interpretations c.args.readings.now.symbols.now in
    let a : Interpretation = record { kind = ty c.in_ok-kind.kind; polynomial = poly c.mark_of-mark.result.now.poly } in
    let is : a ≡ marked_interpretation d.symbols d.rules (mark c.mark_of-mark.result.now) =
    ap (λ (k : Ty). record { kind = k; polynomial = poly c.mark_of-mark.result.now.poly }) c.in_ok-kind.ensures in
    alone_normal d.symbols d.rules symbols c.requires.proper.interpreted (marks_of c.args.readings.now.marks.now) c.args.fun (mark c.mark_of-mark.result.now)
    c.mark_of-mark.ensures c.requires.marked a is c.requires.proper.normal.symbols c.requires.proper.normal.marks

pub returns-clause-ok : goal.returns-clause-ok
returns-clause-ok c =
    let d = system_data c.args.system.now in
    let symbols = interpretations c.args.readings.now.symbols.now in
    let marks = marks_of c.args.readings.now.marks.now in
    let M = declared_metas c.args.metas.now in
    let ts = tms_of (map tm c.args.terms.now) in
    let a : Interpretation = record { kind = ty c.in_ok-kind.kind; polynomial = poly c.mark_of-mark.result.now.poly } in
    let is : a ≡ marked_interpretation d.symbols d.rules (mark c.mark_of-mark.result.now) =
    ap (λ (k : Ty). record { kind = k; polynomial = poly c.mark_of-mark.result.now.poly }) c.in_ok-kind.ensures in
    let scope : map ty c.as_slice-2.result.now ≡ types_of_metas M = ap (map ty) c.as_slice-2.ensures.value ∙ c.in_ok-scope.ensures in
    let count : c.in_ok-counted.field-0 ≡ length c.as_slice-2.result.now = search rules in
    let long = scope_counted c.as_slice-2.result.now (types_of_metas M) c.in_ok-counted.field-0 scope count in
    let whole = call_told M c.in_ok-counted.field-0 (length c.args.readings.now.symbols.now) (length symbols) c.args.terms.now
    (map expression c.as_slice.result.now) long (ap (map expression) c.as_slice.ensures.value ∙ c.in_ok-args.ensures)
    (sym (length-map c.args.readings.now.symbols.now interpretation)) in
    let alike = alone_alike d.symbols d.rules symbols c.requires.proper.interpreted marks c.args.fun (mark c.mark_of-mark.result.now)
    c.mark_of-mark.ensures c.requires.marked a is M ts c.requires.typed c.requires.closed in
    let all = with_marks d.symbols d.rules symbols marks in
    let e = marked_expression M (length symbols) ts in
    let f = marked_expression M (mark_number symbols marks c.args.fun) ts in
    IfOk-weaker c.normal_call.result (λ p. ComesTo (evaluate (symbols ++ a ∷ []) (types_of_metas M) e) (poly p))
    (λ p. ComesTo (evaluate all (types_of_metas M) f) (poly p))
    (λ p h. comes_to_alike (symbols ++ a ∷ []) all (types_of_metas M) e f alike (poly p) h)
    (subst₂ (λ Γ e. IfOk c.normal_call.result (λ p. ComesTo (evaluate (symbols ++ a ∷ []) Γ e) (poly p))) scope whole
    c.normal_call.ensures.ok)

pub returns-clause-fault : goal.returns-clause-fault
returns-clause-fault c =
    let d = system_data c.args.system.now in
    let symbols = interpretations c.args.readings.now.symbols.now in
    let marks = marks_of c.args.readings.now.marks.now in
    let M = declared_metas c.args.metas.now in
    let ts = tms_of (map tm c.args.terms.now) in
    let a : Interpretation = record { kind = ty c.in_ok-kind.kind; polynomial = poly c.mark_of-mark.result.now.poly } in
    let is : a ≡ marked_interpretation d.symbols d.rules (mark c.mark_of-mark.result.now) =
    ap (λ (k : Ty). record { kind = k; polynomial = poly c.mark_of-mark.result.now.poly }) c.in_ok-kind.ensures in
    let scope : map ty c.as_slice-2.result.now ≡ types_of_metas M = ap (map ty) c.as_slice-2.ensures.value ∙ c.in_ok-scope.ensures in
    let count : c.in_ok-counted.field-0 ≡ length c.as_slice-2.result.now = search rules in
    let long = scope_counted c.as_slice-2.result.now (types_of_metas M) c.in_ok-counted.field-0 scope count in
    let whole = call_told M c.in_ok-counted.field-0 (length c.args.readings.now.symbols.now) (length symbols) c.args.terms.now
    (map expression c.as_slice.result.now) long (ap (map expression) c.as_slice.ensures.value ∙ c.in_ok-args.ensures)
    (sym (length-map c.args.readings.now.symbols.now interpretation)) in
    let alike = alone_alike d.symbols d.rules symbols c.requires.proper.interpreted marks c.args.fun (mark c.mark_of-mark.result.now)
    c.mark_of-mark.ensures c.requires.marked a is M ts c.requires.typed c.requires.closed in
    let all = with_marks d.symbols d.rules symbols marks in
    let e = marked_expression M (length symbols) ts in
    let f = marked_expression M (mark_number symbols marks c.args.fun) ts in
    cause_so c.normal_call.result (IsFaultOf (symbols ++ a ∷ []) (types_of_metas M) e) (IsFaultOf all (types_of_metas M) f)
    (λ x h. fault_alike (symbols ++ a ∷ []) all (types_of_metas M) e f alike x h)
    (subst₂ (λ Γ e. IfBecause c.normal_call.result (IsFaultOf (symbols ++ a ∷ []) Γ e)) scope whole c.normal_call.ensures.fault)
