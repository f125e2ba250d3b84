-- A raw term that stands for a typed tree passes the tests of names and types, and its type is that of the tree.
use Rattle.std.proofs.Common.{◌≡◌, ℕ, true, false, not, ◌&&◌, ◌||◌, List, [], ◌∷◌, ◌++◌, length, map, Option, Some, None, is_some, option_map, slice_get, refl, ap, ap₂, sym, ◌∙◌, subst, arith, eq-eqb, append_assoc}
use Rattle.std.specs.Prelude.{option_and_then, ◌==◌}
use Rattle.wh_types.specs.Ty.{Ty, sort, ◌⇒◌}
use Rattle.wh_terms.specs.Tree.{Tm, bound, free, fun, meta, lam, app, Tms, none as no_tms, more as more_tms}
use Rattle.wh_terms.specs.Typing.{Symbols, Declared, Typed, typed_meta, typed_lam, AllTyped, typed_more}
use Rattle.wh_terms.proofs.TypeTests.{same_ty-self}
use Rattle.wh_terms.proofs.TypingLaws.{some_one, free_type}
use Rattle.wh_terms.proofs.TypeWalk.{type_of_bound, type_of_fun, declared_of_meta, function_of_app}
use Rattle.wh_text.specs.RawTree.{RTy, raw_type, RTys, no_types, more_types, named_binder, numbered_binder, RTm, named, numbered, free_variable, meta as raw_meta, lam as raw_lam, spine, RTms, none, more}
use Rattle.wh_system_parts.specs.declared.fault.SystemFault.TheVariants.{UnknownName}
use Rattle.wh_system_parts.specs.Faults.{Test, first_of, first_fault}
use Rattle.wh_system_parts.specs.Naming.{number_of, is_declared, type_meant, arrows_meant, Scope, binder_number, or_else, both, meant, all_meant, applied_meant}
use Rattle.wh_system_parts.specs.Kinds.{TypedBinder, binders_of, declaration, takes, gives, where_true, are_wanted, meta_kind, outer_kind, kind_of, kinds_of, spine_kind}
use Rattle.wh_system_parts.specs.Tests.{test, sorts_of_type, sorts_of_types, arity_of, count_of, wanted_tests, args_of, naming_tests, namings_tests, applying_tests}
use Rattle.wh_system_parts.proofs.OptionParts.{some_same, none_some, both_parts, and_then_parts, map_part}
use Rattle.wh_system_making.proofs.PassedLaws.{Passed, passed_first, passed_rest}
use Rattle.wh_system_making.proofs.KindMade.{Kinds, symbols_of, binder_kind, no_binder, wanted_self}

-- tests that pass

pub no_test : Passed []
no_test = record { none_fails = refl }

pub and_test : (t : Test) (ts : List Test) → t.fails ≡ false → Passed ts → Passed (t ∷ ts)
and_test t ts e p = record { none_fails = ap (λ b. first_of b t.fault (first_fault ts)) e ∙ p.none_fails }

pub and_tests : (ts us : List Test) → Passed ts → Passed us → Passed (ts ++ us)
and_tests [] us p q = q
and_tests (t ∷ ts) us p q = and_test t (ts ++ us) (passed_first p) (and_tests ts us (passed_rest p) q)

-- what a typed tree tells of its parts

out_of_meta : {S : Symbols} {M : List Declared} {Γ : List Ty} {z : ℕ} {ts : Tms} {a : Ty} (d : Declared) → Typed S M Γ (meta z ts) a → slice_get M z ≡ Some d → a ≡ d.out
out_of_meta d (typed_meta e us o) is = o ∙ ap (λ d. d.out) (some_one (sym e ∙ is))

body_of_lam : {S : Symbols} {M : List Declared} {Γ : List Ty} {a : Ty} {t : Tm} {c : Ty} → Typed S M Γ (lam a t) c → (b : Ty) × Typed S M (a ∷ Γ) t b × (c ≡ (a ⇒ b))
body_of_lam (typed_lam {b = b} s p) = (b, p, refl)

first_and_rest : {S : Symbols} {M : List Declared} {Γ : List Ty} {t : Tm} {ts : Tms} {kinds : List Ty} → AllTyped S M Γ (more_tms t ts) kinds
    → (a : Ty) × (as_well : List Ty) × Typed S M Γ t a × AllTyped S M Γ ts as_well × ((a ∷ as_well) ≡ kinds)
first_and_rest (typed_more {a = a} {bs = as_well} p ps) = (a, as_well, p, ps, refl)

-- types

mutual
  pub sorts_passed : (sorts : List (List ℕ)) (a : RTy) (b : Ty) → type_meant sorts a ≡ Some b → Passed (sorts_of_type sorts a)
  sorts_passed sorts (raw_type args s at) b e = arrows_passed sorts args (number_of sorts s) at s b refl e

  arrows_passed : (sorts : List (List ℕ)) (args : RTys) (o : Option ℕ) (at : ℕ) (s : List ℕ) (b : Ty) → number_of sorts s ≡ o → arrows_meant sorts args (option_map sort o) ≡ Some b
      → Passed (sorts_of_types sorts args ++ test (not (is_declared sorts s)) (UnknownName at) ∷ [])
  arrows_passed sorts no_types (Some k) at s b is e = and_test _ [] (ap (λ o. not (is_some o)) is) no_test
  arrows_passed sorts no_types None at s b is e = absurd (none_some e)
  arrows_passed sorts (more_types a rest) o at s b is e =
      let parts = and_then_parts (λ b c. b ⇒ c) (type_meant sorts a) (arrows_meant sorts rest (option_map sort o)) b e in
      subst Passed (sym (append_assoc (sorts_of_type sorts a) (sorts_of_types sorts rest) _))
      (and_tests (sorts_of_type sorts a) (sorts_of_types sorts rest ++ test (not (is_declared sorts s)) (UnknownName at) ∷ []) (sorts_passed sorts a parts.0 parts.2) (arrows_passed sorts rest o at s parts.1 is parts.3))

-- what the tests of names and types say of a raw term that has the type
pub record Passes (s : Scope) (bs : List TypedBinder) (t : RTm) (a : Ty) : Type 0 where
  pub passed : Passed (naming_tests s bs t)
  pub is_kind : kind_of s bs t ≡ Some a

-- and of arguments that have the types
pub record AllPass (s : Scope) (bs : List TypedBinder) (ts : RTms) (kinds : List Ty) : Type 0 where
  pub passed : Passed (namings_tests s bs ts)
  pub are_kinds : kinds_of s bs ts ≡ map (λ a. Some a) kinds

-- and of what has the type c, applied to arguments, where the whole has the type a
pub record SpinePasses (s : Scope) (bs : List TypedBinder) (c : Ty) (ts : RTms) (a : Ty) : Type 0 where
  pub passed : (f : Option Ty) → f ≡ Some c → Passed (applying_tests s bs f ts)
  pub is_kind : (f : Option Ty) → f ≡ Some c → spine_kind s bs f ts ≡ Some a

-- a plain name

bound_passes : (s : Scope) (Γ : List Ty) (bs : List TypedBinder) → Kinds bs Γ → (n : List ℕ) (at i : ℕ) (a : Ty) → binder_number (binders_of bs) (named_binder n) ≡ Some i
    → slice_get Γ i ≡ Some a → Passes s bs (named n at) a
bound_passes s Γ bs k n at i a e g =
    let there = binder_kind Γ bs k (named_binder n) i e in
    record {
      passed =
          and_test _ _ (ap (λ o. not (is_some o || (is_declared s.metas n || is_declared s.funs n))) e)
          (and_test _ [] (ap (λ o. (not (is_some o) && is_declared s.metas n) && not (arity_of (declaration s n) == 0)) e) no_test);
      is_kind = ap (λ o. or_else o (outer_kind s n (number_of s.metas n))) there.1 ∙ sym there.2 ∙ g;
    }

none_wanted : {S : Symbols} {M : List Declared} {Γ : List Ty} (as_well : List Ty) → AllTyped S M Γ no_tms as_well → as_well ≡ []
none_wanted [] p = refl
none_wanted (a ∷ as_well) p = elim p [ ]

meta_passes : (s : Scope) (Γ : List Ty) (bs : List TypedBinder) (n : List ℕ) (at z : ℕ) (a : Ty) → binder_number (binders_of bs) (named_binder n) ≡ None → number_of s.metas n ≡ Some z
    → Typed (symbols_of s) s.declared Γ (meta z no_tms) a → Passes s bs (named n at) a
meta_passes s Γ bs n at z a e0 e1 typed =
    let d = declared_of_meta typed in
    let is : declaration s n ≡ Some d.0 = ap (option_and_then (λ z. slice_get s.declared z)) e1 ∙ d.1 in
    let empty : d.0.args ≡ [] = none_wanted d.0.args d.2 in
    let arity : arity_of (declaration s n) ≡ 0 = ap arity_of is ∙ ap length empty in
    record {
      passed =
          and_test _ _ (ap₂ (λ o p. not (is_some o || (is_some p || is_declared s.funs n))) e0 e1)
          (and_test _ [] (ap₂ (λ b k. b && not (k == 0)) (ap₂ (λ o p. not (is_some o) && is_some p) e0 e1) arity) no_test);
      is_kind = ap₂ (λ o p. or_else o (outer_kind s n p)) (no_binder bs (named_binder n) e0) e1 ∙ ap (λ o. meta_kind o []) d.1 ∙ ap (λ args. where_true (are_wanted [] args) (Some d.0.out)) empty ∙ ap (λ a. Some a) (sym (out_of_meta d.0 typed d.1));
    }

fun_passes : (s : Scope) (Γ : List Ty) (bs : List TypedBinder) (n : List ℕ) (at f : ℕ) (a : Ty) → binder_number (binders_of bs) (named_binder n) ≡ None → number_of s.metas n ≡ None
    → number_of s.funs n ≡ Some f → slice_get s.kinds f ≡ Some a → Passes s bs (named n at) a
fun_passes s Γ bs n at f a e0 e1 e2 g = record {
  passed =
      and_test _ _ (ap₂ (λ o p. not (is_some o || (is_some p || is_declared s.funs n))) e0 e1 ∙ ap (λ o. not (is_some o)) e2)
      (and_test _ [] (ap₂ (λ o p. (not (is_some o) && is_some p) && not (arity_of (declaration s n) == 0)) e0 e1) no_test);
  is_kind = ap₂ (λ o p. or_else o (outer_kind s n p)) (no_binder bs (named_binder n) e0) e1 ∙ ap (option_and_then (λ f. slice_get s.kinds f)) e2 ∙ g;
}

name_passes : (s : Scope) (Γ : List Ty) (bs : List TypedBinder) → Kinds bs Γ → (n : List ℕ) (at : ℕ) (u : Tm) (a : Ty) (x y z : Option ℕ) → binder_number (binders_of bs) (named_binder n) ≡ x
    → number_of s.metas n ≡ y → number_of s.funs n ≡ z → or_else (option_map bound x) (or_else (option_map (λ z. meta z no_tms) y) (option_map fun z)) ≡ Some u
    → Typed (symbols_of s) s.declared Γ u a → Passes s bs (named n at) a
name_passes s Γ bs k n at u a (Some i) y z ex ey ez e typed = bound_passes s Γ bs k n at i a ex (type_of_bound (subst (λ u. Typed (symbols_of s) s.declared Γ u a) (sym (some_same e)) typed))
name_passes s Γ bs k n at u a None (Some z) f ex ey ez e typed = meta_passes s Γ bs n at z a ex ey (subst (λ u. Typed (symbols_of s) s.declared Γ u a) (sym (some_same e)) typed)
name_passes s Γ bs k n at u a None None (Some f) ex ey ez e typed = fun_passes s Γ bs n at f a ex ey ez (type_of_fun (subst (λ u. Typed (symbols_of s) s.declared Γ u a) (sym (some_same e)) typed))
name_passes s Γ bs k n at u a None None None ex ey ez e typed = absurd (none_some e)

-- the arguments of a meta-variable

wanted_passed : (s : Scope) (bs : List TypedBinder) (ts : RTms) (kinds : List Ty) → kinds_of s bs ts ≡ map (λ a. Some a) kinds → Passed (wanted_tests s bs ts kinds)
wanted_passed s bs none kinds e = no_test
wanted_passed s bs (more t ts) [] e = no_test
wanted_passed s bs (more t ts) (a ∷ kinds) e =
    let here : kind_of s bs t ≡ Some a = cc in
    let there : kinds_of s bs ts ≡ map (λ a. Some a) kinds = cc in
    and_test _ _ (rw here (ap not (same_ty-self a))) (wanted_passed s bs ts kinds there)

many : (s : Scope) (bs : List TypedBinder) (ts : RTms) (kinds : List Ty) → kinds_of s bs ts ≡ map (λ a. Some a) kinds → length kinds ≡ count_of ts
many s bs none [] e = refl
many s bs none (a ∷ kinds) e = absurd (cc)
many s bs (more t ts) [] e = absurd (cc)
many s bs (more t ts) (a ∷ kinds) e =
    let there : kinds_of s bs ts ≡ map (λ a. Some a) kinds = cc in
    let rest : length kinds ≡ count_of ts = many s bs ts kinds there in
    omega arith

applied_passes : (s : Scope) (Γ : List Ty) (bs : List TypedBinder) (n : List ℕ) (ts : RTms) (at z : ℕ) (us : Tms) (a : Ty) → number_of s.metas n ≡ Some z
    → Typed (symbols_of s) s.declared Γ (meta z us) a → ((kinds : List Ty) → AllTyped (symbols_of s) s.declared Γ us kinds → AllPass s bs ts kinds) → Passes s bs (raw_meta n ts at) a
applied_passes s Γ bs n ts at z us a e typed each =
    let d = declared_of_meta typed in
    let is : declaration s n ≡ Some d.0 = ap (option_and_then (λ z. slice_get s.declared z)) e ∙ d.1 in
    let all = each d.0.args d.2 in
    let arity : arity_of (declaration s n) ≡ count_of ts = ap arity_of is ∙ many s bs ts d.0.args all.are_kinds in
    record {
      passed =
          and_tests (namings_tests s bs ts) _ all.passed
          (and_test _ _ (ap (λ o. not (is_some o)) e)
          (and_test _ _ (ap not (eq-eqb _ _ arity))
          (subst (λ o. Passed (wanted_tests s bs ts (args_of o))) (sym is) (wanted_passed s bs ts d.0.args all.are_kinds))));
      is_kind = ap₂ meta_kind is all.are_kinds ∙ ap (λ b. where_true b (Some d.0.out)) (wanted_self d.0.args) ∙ ap (λ a. Some a) (sym (out_of_meta d.0 typed d.1));
    }

mutual
  pub typed_passes : (s : Scope) (t : RTm) (Γ : List Ty) (bs : List TypedBinder) → map (λ b. b.kind) bs ≡ map (λ a. Some a) Γ → (u : Tm) (a : Ty) → meant s (binders_of bs) t ≡ Some u
      → Typed (symbols_of s) s.declared Γ u a → Passes s bs t a
  typed_passes s (named n at) Γ bs k u a e typed = name_passes s Γ bs k n at u a (binder_number (binders_of bs) (named_binder n)) (number_of s.metas n) (number_of s.funs n) refl refl refl e typed
  typed_passes s (numbered m at) Γ bs k u a e typed =
      let i = map_part bound (binder_number (binders_of bs) (numbered_binder m)) u e in
      let there = binder_kind Γ bs k (numbered_binder m) i.0 i.1 in
      record {
        passed = and_test _ [] (ap (λ o. not (is_some o)) i.1) no_test;
        is_kind = there.1 ∙ sym there.2 ∙ type_of_bound (subst (λ u. Typed (symbols_of s) s.declared Γ u a) (sym i.2) typed);
      }
  typed_passes s (free_variable m b at) Γ bs k u a e typed =
      let c = map_part (free m) (type_meant s.sorts b) u e in
      record {
        passed = sorts_passed s.sorts b c.0 c.1;
        is_kind = c.1 ∙ ap (λ a. Some a) (free_type m (subst (λ u. Typed (symbols_of s) s.declared Γ u a) (sym c.2) typed));
      }
  typed_passes s (raw_meta n ts at) Γ bs k u a e typed =
      let parts = both_parts meta (number_of s.metas n) (all_meant s (binders_of bs) ts) u e in
      applied_passes s Γ bs n ts at parts.0 parts.1 a parts.2 (subst (λ u. Typed (symbols_of s) s.declared Γ u a) (sym parts.4) typed) (λ kinds all. all_typed_pass s ts Γ bs k parts.1 kinds parts.3 all)
  typed_passes s (raw_lam x b t at) Γ bs k u a e typed =
      let parts = both_parts lam (type_meant s.sorts b) (meant s (x ∷ binders_of bs) t) u e in
      let body = body_of_lam (subst (λ u. Typed (symbols_of s) s.declared Γ u a) (sym parts.4) typed) in
      let below = typed_passes s t (parts.0 ∷ Γ) (record { binder = x; kind = type_meant s.sorts b } ∷ bs) (ap₂ (λ o os. o ∷ os) parts.2 k) parts.1 body.0 parts.3 body.1 in
      record {
        passed = and_tests (sorts_of_type s.sorts b) _ (sorts_passed s.sorts b parts.0 parts.2) below.passed;
        is_kind = ap₂ (both (λ b c. b ⇒ c)) parts.2 below.is_kind ∙ ap (λ a. Some a) (sym body.2);
      }
  typed_passes s (spine h ts at) Γ bs k u a e typed =
      let there = spine_typed_passes s ts Γ bs k (meant s (binders_of bs) h) u a e typed in
      let front = typed_passes s h Γ bs k there.0 there.1 there.2 there.3 in
      record {
        passed = and_tests (naming_tests s bs h) _ front.passed (there.4.passed (kind_of s bs h) front.is_kind);
        is_kind = there.4.is_kind (kind_of s bs h) front.is_kind;
      }

  pub all_typed_pass : (s : Scope) (ts : RTms) (Γ : List Ty) (bs : List TypedBinder) → map (λ b. b.kind) bs ≡ map (λ a. Some a) Γ → (us : Tms) (kinds : List Ty)
      → all_meant s (binders_of bs) ts ≡ Some us → AllTyped (symbols_of s) s.declared Γ us kinds → AllPass s bs ts kinds
  all_typed_pass s none Γ bs k us kinds e typed =
      record { passed = no_test; are_kinds = ap (map (λ a. Some a)) (sym (none_wanted kinds (subst (λ us. AllTyped (symbols_of s) s.declared Γ us kinds) (sym (some_same e)) typed))) }
  all_typed_pass s (more t ts) Γ bs k us kinds e typed =
      let parts = both_parts more_tms (meant s (binders_of bs) t) (all_meant s (binders_of bs) ts) us e in
      let each = first_and_rest (subst (λ us. AllTyped (symbols_of s) s.declared Γ us kinds) (sym parts.4) typed) in
      let here = typed_passes s t Γ bs k parts.0 each.0 parts.2 each.2 in
      let there = all_typed_pass s ts Γ bs k parts.1 each.1 parts.3 each.3 in
      record {
        passed = and_tests (naming_tests s bs t) (namings_tests s bs ts) here.passed there.passed;
        are_kinds = ap₂ (λ o os. o ∷ os) here.is_kind there.are_kinds ∙ ap (map (λ a. Some a)) each.4;
      }

  pub spine_typed_passes : (s : Scope) (ts : RTms) (Γ : List Ty) (bs : List TypedBinder) → map (λ b. b.kind) bs ≡ map (λ a. Some a) Γ → (o : Option Tm) (v : Tm) (a : Ty)
      → applied_meant s (binders_of bs) o ts ≡ Some v → Typed (symbols_of s) s.declared Γ v a
      → (u : Tm) × (c : Ty) × (o ≡ Some u) × Typed (symbols_of s) s.declared Γ u c × SpinePasses s bs c ts a
  spine_typed_passes s none Γ bs k o v a e typed = (v, a, e, typed, record { passed = λ f is. no_test; is_kind = λ f is. is })
  spine_typed_passes s (more t ts) Γ bs k o v a e typed =
      let rest = spine_typed_passes s ts Γ bs k (both app o (meant s (binders_of bs) t)) v a e typed in
      let parts = both_parts app o (meant s (binders_of bs) t) rest.0 rest.2 in
      let function = function_of_app (subst (λ u. Typed (symbols_of s) s.declared Γ u rest.1) (sym parts.4) rest.3) in
      let argument = typed_passes s t Γ bs k parts.1 function.0 parts.3 function.2 in
      let fits : (f : Option Ty) → f ≡ Some (function.0 ⇒ rest.1) → takes f (kind_of s bs t) ≡ true = λ f is. ap₂ takes is argument.is_kind ∙ same_ty-self function.0 in
      let given : (f : Option Ty) → f ≡ Some (function.0 ⇒ rest.1) → gives f ≡ Some rest.1 = λ f is. ap gives is in (
        parts.0,
        function.0 ⇒ rest.1,
        parts.2,
        function.1,
        record {
          passed = λ f is. and_tests (naming_tests s bs t) _ argument.passed (and_test _ _ (ap not (fits f is)) (rest.4.passed (gives f) (given f is)));
          is_kind = λ f is. rest.4.is_kind (where_true (takes f (kind_of s bs t)) (gives f)) (ap (λ b. where_true b (gives f)) (fits f is) ∙ given f is);
        },
      )
