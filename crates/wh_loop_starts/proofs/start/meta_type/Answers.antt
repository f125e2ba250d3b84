-- A meta-variable that is declared has the type of its declaration.
use Rattle.std.proofs.Common.{◌≡◌, length, option_map, IfOk, refl, ap, sym, subst, ◌∙◌, arith}
use Rattle.std.proofs.lemmas.List.{length-map}
use Rattle.std.proofs.lemmas.Option.{slice_get_read, slice_get-map}
use Rattle.wh_types.specs.Ty.{Ty}
use Rattle.wh_types.specs.Erase.{ty, tys}
use Rattle.wh_terms.specs.Erase.{declared_meta, declared_metas}
use Rattle.wh_loop_starts.specs.Starts.{function_type}
use Rattle.wh_loop_starts.proofs.StartLemmas.{meta_type_at, meta_type_past}
use Rattle.wh_loop_starts.proofs.start.meta_type.Goals as goal

pub returns-in-Some : goal.returns-in-Some
returns-in-Some c =
    let metas = c.args.metas.now in
    let z = c.args.meta in
    let m = c.in-Some.declared.now in
    let found = slice_get_read metas (length metas) z m refl c.in-Some.ensures.lookup.3.0 c.in-Some.ensures.lookup.1 in
    let there = slice_get-map declared_meta metas z ∙ ap (option_map declared_meta) found in
    let same = ap (λ as_well. function_type (tys as_well) (ty m.result)) c.as_slice.ensures ∙ sym (meta_type_at (declared_metas metas) z (declared_meta m) there) in
    subst (λ (v : Ty). IfOk c.function_type.result (λ kind. ty kind ≡ v)) same c.function_type.ensures

pub returns-in-None : goal.returns-in-None
returns-in-None c =
    let metas = c.args.metas.now in
    sym (meta_type_past (declared_metas metas) c.args.meta (omega (arith, c.in-None.ensures.lookup.3, length-map metas declared_meta)))
