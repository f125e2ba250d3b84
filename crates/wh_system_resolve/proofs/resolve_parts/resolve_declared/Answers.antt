use Rattle.std.proofs.Common.{◌≡◌, ◌<◌, map, not, Some, None, ap, sym, ◌∙◌, arith, rules, length, eq-eqb}
use Rattle.std.specs.Prelude.{slice_get}
use Rattle.std.proofs.lemmas.List.{length-map}
use Rattle.wh_types.specs.Erase.{ty, tys}
use Rattle.wh_terms.specs.Tree.{meta}
use Rattle.wh_terms.specs.Erase.{tms, declared_meta}
use Rattle.wh_terms.proofs.TermLemmas.{tm_meta}
use Rattle.wh_system_parts.specs.Faults.{first_of}
use Rattle.wh_system_resolve.specs.InScope.{scope as in_scope}
use Rattle.wh_system_parts.specs.Naming.{number_of}
use Rattle.wh_system_parts.specs.declared.fault.SystemFault.TheVariants.{IllTyped}
use Rattle.wh_system_resolve.proofs.PlainNames.{number_below, slice_get_mapped, plain_tests, plain_meta, plain_kind, plain_fun_tests, plain_fun, plain_fun_kind}
use Rattle.wh_system_resolve.proofs.resolve_parts.resolve_declared.Goals as goal

pub returns-in-Some : goal.returns-in-Some
returns-in-Some c =
    let s = in_scope c.args.scope.now in
    let n = c.args.name.now in
    let z = c.in-Some.meta in
    let dm = c.index-as_slice-meta.result in
    let num : number_of s.metas n ≡ Some c.in-Some.meta = sym c.number.ensures ∙ c.in-Some.is in
    let below : c.in-Some.meta < length c.as_slice.result.now = omega (arith, number_below s.metas n c.in-Some.meta num, c.args.scope.now.each_meta, ap length c.as_slice.ensures) in
    let found : slice_get s.declared c.in-Some.meta ≡ Some (declared_meta dm) =
    ap (λ xs. slice_get (map declared_meta xs) c.in-Some.meta) (sym c.as_slice.ensures) ∙ slice_get_mapped declared_meta c.as_slice.result.now c.in-Some.meta dm below c.index-as_slice-meta.is in
    let empty : length c.as_slice-in-Some.result.now ≡ 0 = search rules in
    let bare = ap not (eq-eqb (length (tys dm.args)) 0 (length-map dm.args ty ∙ sym (ap length c.as_slice-in-Some.ensures) ∙ empty)) in
    record {
      passed = plain_tests s n c.args.at z (declared_meta dm) num found ∙ ap (λ b. first_of b (IllTyped c.args.at) None) bare;
      term = plain_meta s n z num ∙ ap (λ ts. Some (meta z (tms ts))) (sym c.new.ensures) ∙ ap Some (sym (tm_meta z c.new.result));
      kind = plain_kind s n z (declared_meta dm) num found bare;
    }

pub returns-in-Some-number : goal.returns-in-Some-number
returns-in-Some-number c =
    let s = in_scope c.args.scope.now in
    let n = c.args.name.now in
    let f = c.in-Some-number.fun in
    let other : number_of s.metas n ≡ None = sym c.number.ensures ∙ c.in_default.is in
    let num : number_of s.funs n ≡ Some c.in-Some-number.fun = sym c.number-2.ensures ∙ c.in-Some-number.is in
    let below : c.in-Some-number.fun < length c.as_slice-in-Some-number.result.now =
    omega (arith, number_below s.funs n c.in-Some-number.fun num, c.args.scope.now.each_fun, ap length c.as_slice-in-Some-number.ensures) in
    let found : slice_get s.kinds c.in-Some-number.fun ≡ Some (ty c.index-as_slice-fun.result) =
    ap (λ xs. slice_get (map ty xs) c.in-Some-number.fun) (sym c.as_slice-in-Some-number.ensures) ∙ slice_get_mapped ty c.as_slice-in-Some-number.result.now f c.index-as_slice-fun.result below c.index-as_slice-fun.is in
    record {
      passed = plain_fun_tests s n c.args.at f other num;
      term = plain_fun s n f other num;
      kind = plain_fun_kind s n f (ty c.index-as_slice-fun.result) other num found;
    }
