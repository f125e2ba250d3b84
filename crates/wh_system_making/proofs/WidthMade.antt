-- The types in a side as it is read bound those in the tree that it stands for.
use Rattle.std.proofs.Common.{◌≡◌, ℕ, ◌+◌, List, ◌∷◌, Option, Some, None, option_map, subst}
use Rattle.wh_terms.specs.Tree.{Tm, bound, free, fun, meta, lam, app, Tms, none as no_tms, more as more_tms}
use Rattle.wh_text.specs.RawTree.{Binder, named_binder, numbered_binder, RTm, named, numbered, free_variable, meta as raw_meta, lam as raw_lam, spine, RTms, none, more}
use Rattle.wh_system_parts.specs.Naming.{number_of, type_meant, Scope, binder_number, or_else, both, meant, all_meant, applied_meant}
use Rattle.wh_system_parts.specs.Tests.{width_of_type, width_of_term, widths_of_terms, width_of_arguments, arguments_of}
use Rattle.wh_system_parts.proofs.OptionParts.{some_same, none_some, both_parts, map_part}
use Rattle.wh_system.specs.WellMade.{TypesWithin, AllTypesWithin}
use Rattle.wh_system_making.proofs.PassedLaws.{Passed, passed_rest, passed_parts}
use Rattle.wh_system_making.proofs.TypeMade.{width_of_meant}

name_types : (n : Option ℕ) (z : Option ℕ) (f : Option ℕ) (u : Tm) → or_else (option_map bound n) (or_else (option_map (λ z. meta z no_tms) z) (option_map fun f)) ≡ Some u → TypesWithin 32 u
name_types (Some i) z f u e = subst (TypesWithin 32) (some_same e) tt
name_types None (Some z) f u e = subst (TypesWithin 32) (some_same e) tt
name_types None None (Some f) u e = subst (TypesWithin 32) (some_same e) tt
name_types None None None u e = absurd (none_some e)

mutual
  pub types_made : (s : Scope) (t : RTm) (bs : List Binder) (u : Tm) → meant s bs t ≡ Some u → Passed (width_of_term t) → TypesWithin 32 u
  types_made s (named n at) bs u e p = name_types (binder_number bs (named_binder n)) (number_of s.metas n) (number_of s.funs n) u e
  types_made s (numbered k at) bs u e p = let i = map_part bound (binder_number bs (numbered_binder k)) u e in subst (TypesWithin 32) i.2 tt
  types_made s (free_variable k a at) bs u e p =
      let b = map_part (free k) (type_meant s.sorts a) u e in subst (TypesWithin 32) b.2 (width_of_meant s.sorts a b.0 b.1 p)
  types_made s (raw_meta n ts at) bs u e p =
      let parts = both_parts meta (number_of s.metas n) (all_meant s bs ts) u e in subst (TypesWithin 32) parts.4 (all_types_made s ts bs parts.1 parts.3 p)
  types_made s (raw_lam x a t at) bs u e p =
      let parts = both_parts lam (type_meant s.sorts a) (meant s (x ∷ bs) t) u e in
      let widths = passed_parts (width_of_type a) (width_of_term t) p in
      subst (TypesWithin 32) parts.4 (width_of_meant s.sorts a parts.0 parts.2 widths.0, types_made s t (x ∷ bs) parts.1 parts.3 widths.1)
  types_made s (spine h ts at) bs u e p =
      let widths = passed_parts (width_of_term h) (width_of_arguments (arguments_of h) ts) p in
      spine_types_made s ts bs (arguments_of h) (meant s bs h) u (λ v f. types_made s h bs v f widths.0) e widths.1

  all_types_made : (s : Scope) (ts : RTms) (bs : List Binder) (us : Tms) → all_meant s bs ts ≡ Some us → Passed (widths_of_terms ts) → AllTypesWithin 32 us
  all_types_made s none bs us e p = subst (AllTypesWithin 32) (some_same e) tt
  all_types_made s (more t ts) bs us e p =
      let parts = both_parts more_tms (meant s bs t) (all_meant s bs ts) us e in
      let widths = passed_parts (width_of_term t) (widths_of_terms ts) p in
      subst (AllTypesWithin 32) parts.4 (types_made s t bs parts.0 parts.2 widths.0, all_types_made s ts bs parts.1 parts.3 widths.1)

  spine_types_made : (s : Scope) (ts : RTms) (bs : List Binder) (k : ℕ) (o : Option Tm) (v : Tm) → ((u : Tm) → o ≡ Some u → TypesWithin 32 u) → applied_meant s bs o ts ≡ Some v
      → Passed (width_of_arguments k ts) → TypesWithin 32 v
  spine_types_made s none bs k o v front e p = front v e
  spine_types_made s (more t ts) bs k o v front e p =
      let widths = passed_parts (width_of_term t) (width_of_arguments (k + 1) ts) (passed_rest p) in
      spine_types_made s ts bs (k + 1) (both app o (meant s bs t)) v
      (λ u f. let parts = both_parts app o (meant s bs t) u f in subst (TypesWithin 32) parts.4 (front parts.0 parts.2, types_made s t bs parts.1 parts.3 widths.0)) e widths.1
