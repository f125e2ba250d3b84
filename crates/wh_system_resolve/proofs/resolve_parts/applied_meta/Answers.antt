use Rattle.std.proofs.Common.{◌≡◌, ◌<◌, map, Some, ap, ap₂, sym, ◌∙◌, arith, length}
use Rattle.std.specs.Prelude.{option_map, slice_get}
use Rattle.std.proofs.lemmas.List.{length-map}
use Rattle.wh_types.specs.Erase.{ty, tys}
use Rattle.wh_types.specs.declared.want.Or.TheVariants.{Because}
use Rattle.wh_terms.specs.Tree.{meta}
use Rattle.wh_terms.specs.Erase.{tms, declared_meta}
use Rattle.wh_terms.proofs.TermLemmas.{tm_meta}
use Rattle.wh_text.specs.Erase.{rtms}
use Rattle.wh_system_resolve.specs.Answers.{IsResolved}
use Rattle.wh_system_parts.specs.Faults.{first_fault}
use Rattle.wh_system_resolve.specs.InScope.{scope as in_scope, type_of, types_of}
use Rattle.wh_system_parts.specs.Kinds.{declaration, meta_kind}
use Rattle.wh_system_parts.specs.Naming.{number_of}
use Rattle.wh_system_resolve.specs.Resolving.{applied_tests, fitting_tests}
use Rattle.wh_system_resolve.proofs.AnswerLemmas.{matched_err}
use Rattle.wh_system_resolve.proofs.FittingLemmas.{fit}
use Rattle.wh_system_resolve.proofs.HeadLemmas.{count_raws}
use Rattle.wh_system_resolve.proofs.PlainNames.{number_below, slice_get_mapped, meta_uneven, meta_even, meta_kind_is}
use Rattle.wh_system_resolve.proofs.resolve_parts.applied_meta.Goals as goal

pub returns-then-wanted-as_slice : goal.returns-then-wanted-as_slice
returns-then-wanted-as_slice c =
    let s = in_scope c.args.scope.now in
    let n = c.args.name.now in
    let dm = c.index-as_slice-meta.result in
    let num : number_of s.metas n ≡ Some c.in-Some.meta = sym c.number.ensures ∙ c.in-Some.is in
    let below : c.in-Some.meta < length c.as_slice.result.now = omega (arith, number_below s.metas n c.in-Some.meta num, c.args.scope.now.each_meta, ap length c.as_slice.ensures) in
    let found : slice_get s.declared c.in-Some.meta ≡ Some (declared_meta dm) =
    ap (λ xs. slice_get (map declared_meta xs) c.in-Some.meta) (sym c.as_slice.ensures) ∙ slice_get_mapped declared_meta c.as_slice.result.now c.in-Some.meta dm below c.index-as_slice-meta.is in
    meta_uneven s n (types_of c.args.list.kinds) (rtms c.args.items.now) c.args.at c.in-Some.meta (declared_meta dm) num found
    (λ e. c.if-wanted-as_slice.true (ap length c.as_slice-wanted.ensures ∙ sym (length-map dm.args ty) ∙ e ∙ count_raws c.args.items.now ∙ sym (ap length c.as_slice-2.ensures)))

pub returns-in_err-check_fitting : goal.returns-in_err-check_fitting
returns-in_err-check_fitting c =
    let s = in_scope c.args.scope.now in
    let n = c.args.name.now in
    let dm = c.index-as_slice-meta.result in
    let gs = types_of c.args.list.kinds in
    let ts = rtms c.args.items.now in
    let num : number_of s.metas n ≡ Some c.in-Some.meta = sym c.number.ensures ∙ c.in-Some.is in
    let below : c.in-Some.meta < length c.as_slice.result.now = omega (arith, number_below s.metas n c.in-Some.meta num, c.args.scope.now.each_meta, ap length c.as_slice.ensures) in
    let found : slice_get s.declared c.in-Some.meta ≡ Some (declared_meta dm) =
    ap (λ xs. slice_get (map declared_meta xs) c.in-Some.meta) (sym c.as_slice.ensures) ∙ slice_get_mapped declared_meta c.as_slice.result.now c.in-Some.meta dm below c.index-as_slice-meta.is in
    let long = sym (ap length c.as_slice-wanted.ensures ∙ sym (length-map dm.args ty)) ∙ c.if-wanted-as_slice.false ∙ ap length c.as_slice-2.ensures ∙ sym (count_raws c.args.items.now) in
    let parts = ap₂ (λ ks js. first_fault (fitting_tests (types_of ks) ts (tys js))) (sym c.as_slice-3.ensures) (sym c.as_slice-wanted.ensures) in
    matched_err (IsResolved (applied_tests s n gs ts c.args.at) (option_map (λ z. meta z (tms c.args.list.trees)) (number_of s.metas n)) (meta_kind (declaration s n) (map Some gs))) (applied_tests s n gs ts c.args.at)
    c.from_residual.result (Because c.in_err-check_fitting.field-0.0) c.from_residual.ensures.1
    (meta_even s n gs ts c.args.at c.in-Some.meta (declared_meta dm) num found long ∙ parts ∙ c.in_err-check_fitting.ensures)

pub returns : goal.returns
returns c =
    let s = in_scope c.args.scope.now in
    let n = c.args.name.now in
    let dm = c.index-as_slice-meta.result in
    let gs = types_of c.args.list.kinds in
    let ts = rtms c.args.items.now in
    let num : number_of s.metas n ≡ Some c.in-Some.meta = sym c.number.ensures ∙ c.in-Some.is in
    let below : c.in-Some.meta < length c.as_slice.result.now = omega (arith, number_below s.metas n c.in-Some.meta num, c.args.scope.now.each_meta, ap length c.as_slice.ensures) in
    let found : slice_get s.declared c.in-Some.meta ≡ Some (declared_meta dm) =
    ap (λ xs. slice_get (map declared_meta xs) c.in-Some.meta) (sym c.as_slice.ensures) ∙ slice_get_mapped declared_meta c.as_slice.result.now c.in-Some.meta dm below c.index-as_slice-meta.is in
    let long = sym (ap length c.as_slice-wanted.ensures ∙ sym (length-map dm.args ty)) ∙ c.if-wanted-as_slice.false ∙ ap length c.as_slice-2.ensures ∙ sym (count_raws c.args.items.now) in
    let parts = ap₂ (λ ks js. first_fault (fitting_tests (types_of ks) ts (tys js))) (sym c.as_slice-3.ensures) (sym c.as_slice-wanted.ensures) in
    let passed = parts ∙ c.in_ok-check_fitting.ensures in
    let given = length-map c.args.list.kinds type_of in
    let each = count_raws c.args.items.now in
    record {
      passed = meta_even s n gs ts c.args.at c.in-Some.meta (declared_meta dm) num found long ∙ passed;
      term = ap (option_map (λ z. meta z (tms c.args.list.trees))) num ∙ ap Some (sym (tm_meta c.in-Some.meta c.args.list.trees));
      kind = meta_kind_is s n gs c.in-Some.meta (declared_meta dm) num found (fit gs (tys dm.args) ts (omega (arith, given, each, c.requires)) (omega (arith, given, each, c.requires, long)) passed);
    }
