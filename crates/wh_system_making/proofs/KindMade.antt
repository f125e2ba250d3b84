-- Where no test of names and types fails, a side stands for a tree that has a type.
use Rattle.std.proofs.Common.{◌≡◌, ℕ, zero, suc, ◌<◌, true, false, not, ◌&&◌, ◌||◌, List, [], ◌∷◌, length, map, Option, Some, None, is_some, option_map, slice_get, refl, ap, ap₂, sym, ◌∙◌, subst, arith, eqb-true}
use Rattle.std.specs.Prelude.{option_and_then, slice_index_or, ◌==◌}
use Rattle.std.proofs.lemmas.List.{length-map}
use Rattle.wh_types.specs.Ty.{Ty, sort, ◌⇒◌, SortsBelow}
use Rattle.wh_terms.specs.Tree.{Tm, bound, free, fun, meta, lam, app, Tms, none as no_tms, more as more_tms}
use Rattle.wh_terms.specs.Typing.{Symbols, Declared, Typed, typed_bound, typed_free, typed_fun, typed_meta, typed_lam, typed_app, AllTyped, typed_none, typed_more}
use Rattle.wh_terms.proofs.TypeTests.{same_ty-self, same_ty-equal}
use Rattle.wh_text.specs.RawTree.{RTy, raw_type, RTys, no_types, more_types, Binder, named_binder, numbered_binder, RTm, named, numbered, free_variable, meta as raw_meta, lam as raw_lam, spine, RTms, none, more}
use Rattle.wh_system_parts.specs.Naming.{number_of, is_declared, type_meant, arrows_meant, Scope, binder_number, or_else, both, meant, all_meant, applied_meant}
use Rattle.wh_system_parts.specs.Kinds.{TypedBinder, binders_of, kind_of_binder, declaration, takes, gives, where_true, are_wanted, meta_kind, outer_kind, kind_of, kinds_of, spine_kind}
use Rattle.wh_system_parts.specs.Tests.{test, sorts_of_type, sorts_of_types, is_meta, is_known, arity_of, count_of, wanted_tests, args_of, naming_tests, namings_tests, applying_tests}
use Rattle.wh_system_making.proofs.PassedLaws.{Passed, passed_first, passed_rest, passed_parts, and_false, not_false, some_is}
use Rattle.wh_system_making.proofs.NameLaws.{position_within, number_within, kind_at}

-- types

mutual
  pub type_made : (sorts : List (List ℕ)) (a : RTy) → Passed (sorts_of_type sorts a) → (b : Ty) × (type_meant sorts a ≡ Some b) × SortsBelow (length sorts) b
  type_made sorts (raw_type args s at) p =
      let parts = passed_parts (sorts_of_types sorts args) _ p in
      let there = some_is (number_of sorts s) (not_false _ (passed_first parts.1)) in
      arrows_made sorts args (option_map sort (number_of sorts s)) (sort there.0) parts.0 (ap (option_map sort) there.1) (number_within sorts s there.0 there.1)

  arrows_made : (sorts : List (List ℕ)) (args : RTys) (o : Option Ty) (c : Ty) → Passed (sorts_of_types sorts args) → o ≡ Some c → SortsBelow (length sorts) c
      → (b : Ty) × (arrows_meant sorts args o ≡ Some b) × SortsBelow (length sorts) b
  arrows_made sorts no_types o c p e below = (c, e, below)
  arrows_made sorts (more_types a rest) o c p e below =
      let parts = passed_parts (sorts_of_type sorts a) (sorts_of_types sorts rest) p in
      let here = type_made sorts a parts.0 in
      let there = arrows_made sorts rest o c parts.1 e below in (
        here.0 ⇒ there.0,
        ap (λ h. option_and_then (λ b. option_map (λ c. b ⇒ c) (arrows_meant sorts rest o)) h) here.1 ∙ ap (option_map (λ c. here.0 ⇒ c)) there.1,
        (here.2, there.2),
      )

-- what names stand for in a rule has its declarations
pub record IsScope (s : Scope) : Type 0 where
  pub metas_declared : length s.metas ≡ length s.declared
  pub funs_declared : length s.funs ≡ length s.kinds

abbrev pub symbols_of : Scope → Symbols
symbols_of s = record { sorts = length s.sorts; funs = s.kinds }

-- the raw term stands for a tree that has a type
pub record Made (s : Scope) (Γ : List Ty) (bs : List TypedBinder) (t : RTm) : Type 0 where
  pub tree : Tm
  pub kind : Ty
  pub is_meant : meant s (binders_of bs) t ≡ Some tree
  pub is_kind : kind_of s bs t ≡ Some kind
  pub typed : Typed (symbols_of s) s.declared Γ tree kind

pub record AllMade (s : Scope) (Γ : List Ty) (bs : List TypedBinder) (ts : RTms) : Type 0 where
  pub trees : Tms
  pub kinds : List Ty
  pub are_meant : all_meant s (binders_of bs) ts ≡ Some trees
  pub are_kinds : kinds_of s bs ts ≡ map (λ a. Some a) kinds
  pub typed : AllTyped (symbols_of s) s.declared Γ trees kinds

pub record SpineMade (s : Scope) (Γ : List Ty) (bs : List TypedBinder) (o : Option Tm) (g : Option Ty) (ts : RTms) : Type 0 where
  pub tree : Tm
  pub kind : Ty
  pub is_meant : applied_meant s (binders_of bs) o ts ≡ Some tree
  pub is_kind : spine_kind s bs g ts ≡ Some kind
  pub typed : Typed (symbols_of s) s.declared Γ tree kind

-- the types of the binders are these
abbrev pub Kinds : List TypedBinder → List Ty → Type 0
Kinds bs Γ = map (λ b. b.kind) bs ≡ map (λ a. Some a) Γ

pub binder_kind : (Γ : List Ty) (bs : List TypedBinder) → Kinds bs Γ → (x : Binder) (i : ℕ) → binder_number (binders_of bs) x ≡ Some i
    → (a : Ty) × (kind_of_binder bs x ≡ Some a) × (slice_get Γ i ≡ Some a)
binder_kind Γ bs k x i e =
    let long : length (binders_of bs) ≡ length Γ = length-map bs (λ b. b.binder) ∙ sym (length-map bs (λ b. b.kind)) ∙ ap length k ∙ length-map Γ (λ a. Some a) in
    let inside : i < length (binders_of bs) = position_within _ (binders_of bs) i e in
    let at = kind_at Γ i (subst (λ n. i < n) long inside) in
    (at.0, ap (option_and_then (λ i. slice_index_or (map (λ b. b.kind) bs) i None)) e ∙ ap (λ l. slice_index_or l i None) k ∙ at.1, at.2)

found : {A : Type 0} (xs : List A) (i : ℕ) → i < length xs → (x : A) × (slice_get xs i ≡ Some x)
found [] i within = absurd (omega arith)
found (x ∷ xs) zero within = (x, refl)
found (x ∷ xs) (suc i) within = found xs i (omega arith)

-- a plain name

named_bound : (s : Scope) (Γ : List Ty) (bs : List TypedBinder) → Kinds bs Γ → (n : List ℕ) (at i : ℕ) → binder_number (binders_of bs) (named_binder n) ≡ Some i
    → Made s Γ bs (named n at)
named_bound s Γ bs k n at i e =
    let there = binder_kind Γ bs k (named_binder n) i e in
    record {
      tree = bound i;
      kind = there.0;
      is_meant = ap (λ o. or_else (option_map bound o) (or_else (option_map (λ z. meta z no_tms) (number_of s.metas n)) (option_map fun (number_of s.funs n)))) e;
      is_kind = ap (λ o. or_else o (outer_kind s n (number_of s.metas n))) there.1;
      typed = typed_bound there.2;
    }

pub no_binder : (bs : List TypedBinder) (x : Binder) → binder_number (binders_of bs) x ≡ None → kind_of_binder bs x ≡ None
no_binder bs x e = ap (option_and_then (λ i. slice_index_or (map (λ b. b.kind) bs) i None)) e

no_arguments : (d : Declared) → (not (length d.args == 0)) ≡ false → d.args ≡ []
no_arguments d e = go d.args (eqb-true _ _ (not_false _ e))
  where
    go : (args : List Ty) → length args ≡ 0 → args ≡ []
    go [] e = refl
    go (a ∷ args) e = absurd (omega arith)

named_meta : (s : Scope) → IsScope s → (Γ : List Ty) (bs : List TypedBinder) (n : List ℕ) (at z : ℕ) → binder_number (binders_of bs) (named_binder n) ≡ None
    → number_of s.metas n ≡ Some z → (is_meta s bs n && not (arity_of (declaration s n) == 0)) ≡ false → Made s Γ bs (named n at)
named_meta s w Γ bs n at z e0 e1 test =
    let d = found s.declared z (subst (λ m. z < m) w.metas_declared (number_within s.metas n z e1)) in
    let is : declaration s n ≡ Some d.0 = ap (option_and_then (λ z. slice_get s.declared z)) e1 ∙ d.1 in
    let meta_is : is_meta s bs n ≡ true = ap₂ (λ o p. not (is_some o) && is_some p) e0 e1 in
    let none_wanted : d.0.args ≡ [] = no_arguments d.0 (sym (ap (λ o. not (arity_of o == 0)) is) ∙ and_false _ _ test meta_is) in
    record {
      tree = meta z no_tms;
      kind = d.0.out;
      is_meant = ap₂ (λ o p. or_else (option_map bound o) (or_else (option_map (λ z. meta z no_tms) p) (option_map fun (number_of s.funs n)))) e0 e1;
      is_kind = ap₂ (λ o p. or_else o (outer_kind s n p)) (no_binder bs (named_binder n) e0) e1 ∙ ap (λ o. meta_kind o []) d.1 ∙ ap (λ args. where_true (are_wanted [] args) (Some d.0.out)) none_wanted;
      typed = typed_meta d.1 (subst (λ args. AllTyped (symbols_of s) s.declared Γ no_tms args) (sym none_wanted) typed_none) refl;
    }

named_fun : (s : Scope) → IsScope s → (Γ : List Ty) (bs : List TypedBinder) (n : List ℕ) (at f : ℕ) → binder_number (binders_of bs) (named_binder n) ≡ None
    → number_of s.metas n ≡ None → number_of s.funs n ≡ Some f → Made s Γ bs (named n at)
named_fun s w Γ bs n at f e0 e1 e2 =
    let a = found s.kinds f (subst (λ m. f < m) w.funs_declared (number_within s.funs n f e2)) in
    record {
      tree = fun f;
      kind = a.0;
      is_meant = ap₂ (λ o p. or_else (option_map bound o) (or_else (option_map (λ z. meta z no_tms) p) (option_map fun (number_of s.funs n)))) e0 e1 ∙ ap (option_map fun) e2;
      is_kind = ap₂ (λ o p. or_else o (outer_kind s n p)) (no_binder bs (named_binder n) e0) e1 ∙ ap (option_and_then (λ f. slice_get s.kinds f)) e2 ∙ a.1;
      typed = typed_fun a.1;
    }

named_made : (s : Scope) → IsScope s → (Γ : List Ty) (bs : List TypedBinder) → Kinds bs Γ → (n : List ℕ) (at : ℕ) → Passed (naming_tests s bs (named n at))
    → Made s Γ bs (named n at)
named_made s w Γ bs k n at p = go (binder_number (binders_of bs) (named_binder n)) (number_of s.metas n) (number_of s.funs n) refl refl refl
  where
    go : (x y z : Option ℕ) → binder_number (binders_of bs) (named_binder n) ≡ x → number_of s.metas n ≡ y → number_of s.funs n ≡ z → Made s Γ bs (named n at)
    go (Some i) y z ex ey ez = named_bound s Γ bs k n at i ex
    go None (Some z) f ex ey ez = named_meta s w Γ bs n at z ex ey (passed_first (passed_rest p))
    go None None (Some f) ex ey ez = named_fun s w Γ bs n at f ex ey ez
    go None None None ex ey ez =
        let known : is_known s bs n ≡ true = not_false _ (passed_first p) in
        absurd (true_false (sym known ∙ ap₂ (λ o p. is_some o || (is_some p || is_some (number_of s.funs n))) ex ey ∙ ap is_some ez))
      where
        true_false : true ≡ false → ⊥
        true_false e = cc

-- the arguments of a meta-variable have the types that are wanted

are_those_wanted : (s : Scope) (bs : List TypedBinder) (ts : RTms) (kinds wanted : List Ty) → kinds_of s bs ts ≡ map (λ a. Some a) kinds → length wanted ≡ count_of ts
    → Passed (wanted_tests s bs ts wanted) → kinds ≡ wanted
are_those_wanted s bs none [] [] e long p = refl
are_those_wanted s bs none [] (b ∷ wanted) e long p = absurd (omega arith)
are_those_wanted s bs none (a ∷ kinds) wanted e long p = absurd (cc)
are_those_wanted s bs (more t ts) [] wanted e long p = absurd (cc)
are_those_wanted s bs (more t ts) (a ∷ kinds) [] e long p = absurd (omega arith)
are_those_wanted s bs (more t ts) (a ∷ kinds) (b ∷ wanted) e long p =
    let here : kind_of s bs t ≡ Some a = cc in
    let there : kinds_of s bs ts ≡ map (λ a. Some a) kinds = cc in
    ap₂ (λ x xs. x ∷ xs) (same_ty-equal a b (not_false _ (rw here at (passed_first p)))) (are_those_wanted s bs ts kinds wanted there (omega arith) (passed_rest p))

pub wanted_self : (kinds : List Ty) → are_wanted (map (λ a. Some a) kinds) kinds ≡ true
wanted_self [] = refl
wanted_self (a ∷ kinds) = ap₂ (λ x y. x && y) (same_ty-self a) (wanted_self kinds)

takes_arrow : (a c : Ty) → takes (Some a) (Some c) ≡ true → (b : Ty) × (a ≡ (c ⇒ b))
takes_arrow (sort s) c e = absurd (cc)
takes_arrow (a ⇒ b) c e = (b, ap (λ d. d ⇒ b) (same_ty-equal a c e))

meta_made : (s : Scope) → IsScope s → (Γ : List Ty) (bs : List TypedBinder) (n : List ℕ) (ts : RTms) (at : ℕ) → AllMade s Γ bs ts
    → (not (is_declared s.metas n)) ≡ false → (not (arity_of (declaration s n) == count_of ts)) ≡ false → Passed (wanted_tests s bs ts (args_of (declaration s n)))
    → Made s Γ bs (raw_meta n ts at)
meta_made s w Γ bs n ts at made known arity wanted =
    let z = some_is (number_of s.metas n) (not_false _ known) in
    let d = found s.declared z.0 (subst (λ m. z.0 < m) w.metas_declared (number_within s.metas n z.0 z.1)) in
    let is : declaration s n ≡ Some d.0 = ap (option_and_then (λ z. slice_get s.declared z)) z.1 ∙ d.1 in
    let long : length d.0.args ≡ count_of ts = sym (ap arity_of is) ∙ eqb-true _ _ (not_false _ arity) in
    let same : made.kinds ≡ d.0.args = are_those_wanted s bs ts made.kinds d.0.args made.are_kinds long (subst (λ o. Passed (wanted_tests s bs ts (args_of o))) is wanted) in
    record {
      tree = meta z.0 made.trees;
      kind = d.0.out;
      is_meant = ap₂ (both meta) z.1 made.are_meant;
      is_kind = ap₂ meta_kind is (made.are_kinds ∙ ap (map (λ a. Some a)) same) ∙ ap (λ b. where_true b (Some d.0.out)) (wanted_self d.0.args);
      typed = typed_meta d.1 (subst (AllTyped (symbols_of s) s.declared Γ made.trees) same made.typed) refl;
    }

mutual
  -- where no test of names and types fails, a raw term stands for a tree that has a type
  pub made : (s : Scope) → IsScope s → (t : RTm) (Γ : List Ty) (bs : List TypedBinder) → map (λ b. b.kind) bs ≡ map (λ a. Some a) Γ → Passed (naming_tests s bs t) → Made s Γ bs t
  made s w (named n at) Γ bs k p = named_made s w Γ bs k n at p
  made s w (numbered m at) Γ bs k p =
      let i = some_is (binder_number (binders_of bs) (numbered_binder m)) (not_false _ (passed_first p)) in
      let there = binder_kind Γ bs k (numbered_binder m) i.0 i.1 in
      record { tree = bound i.0; kind = there.0; is_meant = ap (option_map bound) i.1; is_kind = there.1; typed = typed_bound there.2 }
  made s w (free_variable x a at) Γ bs k p =
      let b = type_made s.sorts a p in
      record { tree = free x b.0; kind = b.0; is_meant = ap (option_map (free x)) b.1; is_kind = b.1; typed = typed_free b.2 }
  made s w (raw_meta n ts at) Γ bs k p =
      let parts = passed_parts (namings_tests s bs ts) _ p in
      meta_made s w Γ bs n ts at (all_made s w ts Γ bs k parts.0) (passed_first parts.1) (passed_first (passed_rest parts.1)) (passed_rest (passed_rest parts.1))
  made s w (raw_lam x a t at) Γ bs k p =
      let parts = passed_parts (sorts_of_type s.sorts a) _ p in
      let b = type_made s.sorts a parts.0 in
      let body = made s w t (b.0 ∷ Γ) (record { binder = x; kind = type_meant s.sorts a } ∷ bs) (ap₂ (λ o os. o ∷ os) b.1 k) parts.1 in
      record {
        tree = lam b.0 body.tree;
        kind = b.0 ⇒ body.kind;
        is_meant = ap₂ (both lam) b.1 body.is_meant;
        is_kind = ap₂ (both (λ b c. b ⇒ c)) b.1 body.is_kind;
        typed = typed_lam b.2 body.typed;
      }
  made s w (spine h ts at) Γ bs k p =
      let parts = passed_parts (naming_tests s bs h) (applying_tests s bs (kind_of s bs h) ts) p in
      let first = made s w h Γ bs k parts.0 in
      let all = spine_made s w ts Γ bs k (meant s (binders_of bs) h) (kind_of s bs h) (kind_of s bs h) first.tree first.kind first.is_meant first.is_kind first.is_kind first.typed parts.1 in
      record { tree = all.tree; kind = all.kind; is_meant = all.is_meant; is_kind = all.is_kind; typed = all.typed }

  pub all_made : (s : Scope) → IsScope s → (ts : RTms) (Γ : List Ty) (bs : List TypedBinder) → map (λ b. b.kind) bs ≡ map (λ a. Some a) Γ → Passed (namings_tests s bs ts) → AllMade s Γ bs ts
  all_made s w none Γ bs k p = record { trees = no_tms; kinds = []; are_meant = refl; are_kinds = refl; typed = typed_none }
  all_made s w (more t ts) Γ bs k p =
      let parts = passed_parts (naming_tests s bs t) (namings_tests s bs ts) p in
      let here = made s w t Γ bs k parts.0 in
      let there = all_made s w ts Γ bs k parts.1 in
      record {
        trees = more_tms here.tree there.trees;
        kinds = here.kind ∷ there.kinds;
        are_meant = ap₂ (both more_tms) here.is_meant there.are_meant;
        are_kinds = ap₂ (λ o os. o ∷ os) here.is_kind there.are_kinds;
        typed = typed_more here.typed there.typed;
      }

  -- f and g are one type, as the tests and the type of the spine have it
  pub spine_made : (s : Scope) → IsScope s → (ts : RTms) (Γ : List Ty) (bs : List TypedBinder) → map (λ b. b.kind) bs ≡ map (λ a. Some a) Γ
      → (o : Option Tm) (f g : Option Ty) (u : Tm) (a : Ty) → o ≡ Some u → f ≡ Some a → g ≡ Some a → Typed (symbols_of s) s.declared Γ u a
      → Passed (applying_tests s bs f ts) → SpineMade s Γ bs o g ts
  spine_made s w none Γ bs k o f g u a eo ef eg typed p = record { tree = u; kind = a; is_meant = eo; is_kind = eg; typed = typed }
  spine_made s w (more t ts) Γ bs k o f g u a eo ef eg typed p =
      let parts = passed_parts (naming_tests s bs t) _ p in
      let here = made s w t Γ bs k parts.0 in
      let fits : takes f (kind_of s bs t) ≡ true = not_false _ (passed_first parts.1) in
      let b = takes_arrow a here.kind (sym (ap₂ takes ef here.is_kind) ∙ fits) in
      let given : gives f ≡ Some b.0 = ap gives (ef ∙ ap (λ c. Some c) b.1) in
      let kind : where_true (takes g (kind_of s bs t)) (gives g) ≡ Some b.0 = ap (λ c. where_true (takes c (kind_of s bs t)) (gives c)) (eg ∙ sym ef) ∙ ap (λ c. where_true c (gives f)) fits ∙ given in
      let all = spine_made s w ts Γ bs k (both app o (meant s (binders_of bs) t)) (gives f) (where_true (takes g (kind_of s bs t)) (gives g)) (app u here.tree) b.0
      (ap₂ (both app) eo here.is_meant) given kind (typed_app (subst (λ c. Typed (symbols_of s) s.declared Γ u c) b.1 typed) here.typed) (passed_rest parts.1) in
      record { tree = all.tree; kind = all.kind; is_meant = all.is_meant; is_kind = all.is_kind; typed = all.typed }
