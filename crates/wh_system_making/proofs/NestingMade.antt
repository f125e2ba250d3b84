-- The types that raw types stand for nest as deep as they are written, also within sides.
use Rattle.std.proofs.Common.{◌≡◌, ℕ, ◌+◌, ◌≤◌, List, ◌∷◌, Option, Some, None, option_map, refl, ap₂, sym, subst}
use Rattle.std.specs.Prelude.{max}
use Rattle.wh_types.specs.Ty.{Ty, sort, ◌⇒◌}
use Rattle.wh_terms.specs.Tree.{Tm, bound, free, fun, meta, lam, app, Tms, none as no_tms, more as more_tms}
use Rattle.wh_text.specs.RawTree.{RTy, raw_type, RTys, no_types, more_types, Binder, named_binder, numbered_binder, RTm, named, numbered, free_variable, meta as raw_meta, lam as raw_lam, spine, RTms, none, more}
use Rattle.wh_system_parts.specs.Naming.{number_of, type_meant, arrows_meant, Scope, binder_number, or_else, both, meant, all_meant, applied_meant}
use Rattle.wh_system_parts.proofs.OptionParts.{some_same, none_some, both_parts, and_then_parts, map_part}
use Rattle.wh_system.specs.Nesting.{type_nesting, part_nesting, raw_part_nesting, raw_parts_nesting, raw_nesting, TypesNestWithin, AllTypesNestWithin, RawTypesNestWithin, AllRawTypesNestWithin}

-- types

sort_nesting : (o : Option ℕ) (b : Ty) → option_map sort o ≡ Some b → (type_nesting b ≡ 0) × (part_nesting b ≡ 0)
sort_nesting (Some s) b e = subst (λ b. (type_nesting b ≡ 0) × (part_nesting b ≡ 0)) (some_same e) (refl, refl)
sort_nesting None b e = absurd (none_some e)

mutual
  pub type_nesting-meant : (sorts : List (List ℕ)) (a : RTy) (b : Ty) → type_meant sorts a ≡ Some b → type_nesting b ≡ raw_nesting a
  type_nesting-meant sorts (raw_type args s at) b e = arrows_nesting-meant sorts args (number_of sorts s) b e

  arrows_nesting-meant : (sorts : List (List ℕ)) (args : RTys) (o : Option ℕ) (b : Ty) → arrows_meant sorts args (option_map sort o) ≡ Some b → type_nesting b ≡ raw_parts_nesting args
  arrows_nesting-meant sorts no_types o b e = (sort_nesting o b e).0
  arrows_nesting-meant sorts (more_types a rest) o b e =
      let both = and_then_parts (λ b c. b ⇒ c) (type_meant sorts a) (arrows_meant sorts rest (option_map sort o)) b e in
      subst (λ b. type_nesting b ≡ max (raw_part_nesting a) (raw_parts_nesting rest)) both.4
      (ap₂ max (part_nesting-meant sorts a both.0 both.2) (arrows_nesting-meant sorts rest o both.1 both.3))

  pub part_nesting-meant : (sorts : List (List ℕ)) (a : RTy) (b : Ty) → type_meant sorts a ≡ Some b → part_nesting b ≡ raw_part_nesting a
  part_nesting-meant sorts (raw_type no_types s at) b e = (sort_nesting (number_of sorts s) b e).1
  part_nesting-meant sorts (raw_type (more_types a rest) s at) b e =
      let both = and_then_parts (λ b c. b ⇒ c) (type_meant sorts a) (arrows_meant sorts rest (option_map sort (number_of sorts s))) b e in
      subst (λ b. part_nesting b ≡ 1 + max (raw_part_nesting a) (raw_parts_nesting rest)) both.4
      (ap₂ (λ m n. 1 + max m n) (part_nesting-meant sorts a both.0 both.2) (arrows_nesting-meant sorts rest (number_of sorts s) both.1 both.3))

-- a type that is a part
part_within : (n : ℕ) (sorts : List (List ℕ)) (a : RTy) (b : Ty) → type_meant sorts a ≡ Some b → raw_part_nesting a ≤ n → part_nesting b ≤ n
part_within n sorts a b e within = subst (λ k. k ≤ n) (sym (part_nesting-meant sorts a b e)) within

-- sides

name_nests : (n : ℕ) (x z f : Option ℕ) (u : Tm) → or_else (option_map bound x) (or_else (option_map (λ z. meta z no_tms) z) (option_map fun f)) ≡ Some u → TypesNestWithin n u
name_nests n (Some i) z f u e = subst (TypesNestWithin n) (some_same e) tt
name_nests n None (Some z) f u e = subst (TypesNestWithin n) (some_same e) tt
name_nests n None None (Some f) u e = subst (TypesNestWithin n) (some_same e) tt
name_nests n None None None u e = absurd (none_some e)

mutual
  pub side_nests : (n : ℕ) (s : Scope) (t : RTm) (bs : List Binder) (u : Tm) → meant s bs t ≡ Some u → RawTypesNestWithin n t → TypesNestWithin n u
  side_nests n s (named x at) bs u e within = name_nests n (binder_number bs (named_binder x)) (number_of s.metas x) (number_of s.funs x) u e
  side_nests n s (numbered k at) bs u e within = let i = map_part bound (binder_number bs (numbered_binder k)) u e in subst (TypesNestWithin n) i.2 tt
  side_nests n s (free_variable k a at) bs u e within =
      let b = map_part (free k) (type_meant s.sorts a) u e in subst (TypesNestWithin n) b.2 (part_within n s.sorts a b.0 b.1 within)
  side_nests n s (raw_meta x ts at) bs u e within =
      let parts = both_parts meta (number_of s.metas x) (all_meant s bs ts) u e in
      subst (TypesNestWithin n) parts.4 (sides_nest n s ts bs parts.1 parts.3 within)
  side_nests n s (raw_lam x a t at) bs u e within =
      let parts = both_parts lam (type_meant s.sorts a) (meant s (x ∷ bs) t) u e in
      subst (TypesNestWithin n) parts.4 (part_within n s.sorts a parts.0 parts.2 within.0, side_nests n s t (x ∷ bs) parts.1 parts.3 within.1)
  side_nests n s (spine h ts at) bs u e within =
      spine_nests n s ts bs (meant s bs h) u (λ v f. side_nests n s h bs v f within.0) e within.1

  sides_nest : (n : ℕ) (s : Scope) (ts : RTms) (bs : List Binder) (us : Tms) → all_meant s bs ts ≡ Some us → AllRawTypesNestWithin n ts → AllTypesNestWithin n us
  sides_nest n s none bs us e within = subst (AllTypesNestWithin n) (some_same e) tt
  sides_nest n s (more t ts) bs us e within =
      let parts = both_parts more_tms (meant s bs t) (all_meant s bs ts) us e in
      subst (AllTypesNestWithin n) parts.4 (side_nests n s t bs parts.0 parts.2 within.0, sides_nest n s ts bs parts.1 parts.3 within.1)

  spine_nests : (n : ℕ) (s : Scope) (ts : RTms) (bs : List Binder) (o : Option Tm) (v : Tm) → ((u : Tm) → o ≡ Some u → TypesNestWithin n u) → applied_meant s bs o ts ≡ Some v
      → AllRawTypesNestWithin n ts → TypesNestWithin n v
  spine_nests n s none bs o v front e within = front v e
  spine_nests n s (more t ts) bs o v front e within =
      spine_nests n s ts bs (both app o (meant s bs t)) v
      (λ u f. let parts = both_parts app o (meant s bs t) u f in subst (TypesNestWithin n) parts.4 (front parts.0 parts.2, side_nests n s t bs parts.1 parts.3 within.0)) e within.1
