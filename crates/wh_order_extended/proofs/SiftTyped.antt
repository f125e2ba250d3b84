-- Filtered trees are typed and full over the signature of filtered trees, and have no free variable where the trees
-- have none.
use Rattle.std.proofs.Common.{◌≡◌, ℕ, zero, suc, ◌+◌, ◌<◌, List, [], ◌∷◌, length, map, refl, ap, ◌∙◌, sym, subst, Some, slice_get, arith}
use Rattle.std.specs.Prelude.{get_or}
use Rattle.std.specs.List.{AllByRecursion}
use Rattle.wh_types.specs.Ty.{Ty, sort, ◌⇒◌, arguments, result_sort, SortsBelow}
use Rattle.wh_terms.specs.Tree.{Tm, bound, free, fun, meta, lam, app, Tms, none, more, tms_of, spine}
use Rattle.wh_terms.specs.Sight.{NoFree, AllNoFree}
use Rattle.wh_terms.specs.Typing.{Symbols, Declared, Typed, typed_bound, typed_free, typed_fun, typed_meta, typed_lam, typed_app, AllTyped, typed_none, typed_more}
use Rattle.wh_terms.proofs.TypingLaws.{some_one}
use Rattle.wh_order_inference.specs.Filters.{Filter, keep, pick}
use Rattle.wh_order_extended.specs.Kinds.{type_at, arrows}
use Rattle.wh_order_extended.specs.Filtered.{collapse, chosen, filtered, sift, sifts, FullWith, AllFull, symbol_arity, Full, IncreasingFrom, IsProper, kept_type, Filters, collapsed}
use Rattle.wh_order_extended.proofs.LongLaws.{at_is}
use Rattle.wh_order_extended.proofs.TypeLists.{arrows_one, arrows-arguments, typed_spine}

collapse-arrows : (cs : List Ty) (b : Ty) → collapse (arrows cs b) ≡ arrows (map collapse cs) (collapse b)
collapse-arrows [] b = refl
collapse-arrows (c ∷ cs) b = ap (λ d. collapse c ⇒ d) (collapse-arrows cs b)

pub collapse-known : (n : ℕ) → 0 < n → (a : Ty) → SortsBelow n (collapse a)
collapse-known n l (sort s) = l
collapse-known n l (a ⇒ b) = (collapse-known n l a, collapse-known n l b)

get_collapsed : (Γ : List Ty) (i : ℕ) (a : Ty) → slice_get Γ i ≡ Some a → slice_get (map collapse Γ) i ≡ Some (collapse a)
get_collapsed [] i a e = absurd (cc)
get_collapsed (b ∷ Γ) zero a e = ap (λ b. Some (collapse b)) (some_one e)
get_collapsed (b ∷ Γ) (suc i) a e = get_collapsed Γ i a e

abbrev declared_collapsed : Declared → Declared
declared_collapsed d = record { args = map collapse d.args; out = collapse d.out }

get_declared : (M : List Declared) (z : ℕ) (d : Declared) → slice_get M z ≡ Some d → slice_get (collapsed M) z ≡ Some (declared_collapsed d)
get_declared [] z d e = absurd (cc)
get_declared (c ∷ M) zero d e = ap (λ c. Some (declared_collapsed c)) (some_one e)
get_declared (c ∷ M) (suc z) d e = get_declared M z d e

length_map : {A B : Type 0} (h : A → B) (l : List A) → length (map h l) ≡ length l
length_map h [] = refl
length_map h (a ∷ l) = ap suc (length_map h l)

-- a spine is full where its head is, with the number of arguments behind it, and these are
full_spine : (arity : ℕ → ℕ) (n : ℕ) (h : Tm) (qs : List Tm) → FullWith arity (length qs + n) h → AllByRecursion (FullWith arity 0) qs → FullWith arity n (spine h qs)
full_spine arity n h [] f g = subst (λ n. FullWith arity n h) (omega arith) f
full_spine arity n h (q ∷ qs) f g = full_spine arity n (app h q) qs (subst (λ n. FullWith arity n h) (omega arith) f, g.0) g.1

no_free_spine : (h : Tm) (qs : List Tm) → NoFree h → AllByRecursion NoFree qs → NoFree (spine h qs)
no_free_spine h [] n m = n
no_free_spine h (q ∷ qs) n m = no_free_spine (app h q) qs (n, m.0) m.1

-- what holds of all members, and of a symbol, holds of the chosen ones
get_all : (P : Tm → Type 0) → P (fun 0) → (qs : List Tm) (i : ℕ) → AllByRecursion P qs → P (get_or qs i (fun 0))
get_all P z [] i h = z
get_all P z (q ∷ qs) zero h = h.0
get_all P z (q ∷ qs) (suc i) h = get_all P z qs i h.1

chosen_all : (P : Tm → Type 0) → P (fun 0) → (is : List ℕ) (qs : List Tm) → AllByRecursion P qs → AllByRecursion P (chosen is qs)
chosen_all P z [] qs h = tt
chosen_all P z (i ∷ is) qs h = (get_all P z qs i h, chosen_all P z is qs h)

no_free_filtered : (F : Filter) (f : ℕ) (qs : List Tm) → AllByRecursion NoFree qs → NoFree (filtered F f qs)
no_free_filtered (keep p is) f qs m = no_free_spine (fun f) (chosen is qs) tt (chosen_all NoFree tt is qs m)
no_free_filtered (pick i) f qs m = get_all NoFree tt qs i m

mutual
  unfolding sift sifts

  -- filtered trees have no free variable where the trees have none
  pub no_free_sift : (Φ : ℕ → Filter) (t : Tm) (qs : List Tm) → NoFree t → AllByRecursion NoFree qs → NoFree (sift Φ t qs)
  no_free_sift Φ (bound i) qs n m = no_free_spine (bound i) qs tt m
  no_free_sift Φ (free x a) qs n m = absurd n
  no_free_sift Φ (fun f) qs n m = no_free_filtered (Φ f) f qs m
  no_free_sift Φ (meta z ts) qs n m = no_free_spine (meta z (sifts Φ ts)) qs (no_free_sifts Φ ts n) m
  no_free_sift Φ (lam a t) qs n m = no_free_spine (lam (collapse a) (sift Φ t [])) qs (no_free_sift Φ t [] n tt) m
  no_free_sift Φ (app t u) qs n m = no_free_sift Φ t (sift Φ u [] ∷ qs) n.0 (no_free_sift Φ u [] n.1 tt, m)

  no_free_sifts : (Φ : ℕ → Filter) (ts : Tms) → AllNoFree ts → AllNoFree (sifts Φ ts)
  no_free_sifts Φ none n = tt
  no_free_sifts Φ (more t ts) n = (no_free_sift Φ t [] n.0 tt, no_free_sifts Φ ts n.1)

module _ (S F : Symbols) (Φ : ℕ → Filter) (into : Filters S F Φ) where
  -- typed and full over F
  pub record Sifted (M : List Declared) (Γ : List Ty) (t : Tm) (a : Ty) : Type 0 where
    pub typed : Typed F M Γ t a
    pub full : Full F 0 t

  -- so one by one
  abbrev pub AllSifted : List Declared → List Ty → List Tm → List Ty → Type 0
  AllSifted M Γ [] [] = Unit {0}
  AllSifted M Γ (q ∷ qs) (c ∷ cs) = Sifted M Γ q (collapse c) × AllSifted M Γ qs cs
  AllSifted M Γ qs cs = ⊥

  all_typed : (M : List Declared) (Γ : List Ty) (qs : List Tm) (cs : List Ty) → AllSifted M Γ qs cs → AllTyped F M Γ (tms_of qs) (map collapse cs)
  all_typed M Γ [] [] h = typed_none
  all_typed M Γ [] (c ∷ cs) h = absurd h
  all_typed M Γ (q ∷ qs) [] h = absurd h
  all_typed M Γ (q ∷ qs) (c ∷ cs) h = typed_more h.0.typed (all_typed M Γ qs cs h.1)

  all_full : (M : List Declared) (Γ : List Ty) (qs : List Tm) (cs : List Ty) → AllSifted M Γ qs cs → AllByRecursion (Full F 0) qs
  all_full M Γ [] cs h = tt
  all_full M Γ (q ∷ qs) [] h = absurd h
  all_full M Γ (q ∷ qs) (c ∷ cs) h = (h.0.full, all_full M Γ qs cs h.1)

  sifted_length : (M : List Declared) (Γ : List Ty) (qs : List Tm) (cs : List Ty) → AllSifted M Γ qs cs → length qs ≡ length cs
  sifted_length M Γ [] [] h = refl
  sifted_length M Γ [] (c ∷ cs) h = absurd h
  sifted_length M Γ (q ∷ qs) [] h = absurd h
  sifted_length M Γ (q ∷ qs) (c ∷ cs) h = ap suc (sifted_length M Γ qs cs h.1)

  -- a head that is no symbol, with arguments
  headed : {M : List Declared} {Γ : List Ty} (h : Tm) (a : Ty) (qs : List Tm) (cs : List Ty) (b : Ty) → a ≡ arrows cs b → Typed F M Γ h (collapse a)
      → ((n : ℕ) → Full F n h) → AllSifted M Γ qs cs → Sifted M Γ (spine h qs) (collapse b)
  headed {M = M} {Γ = Γ} h a qs cs b e p f g = record {
    typed = typed_spine h qs (map collapse cs) (subst (Typed F M Γ h) (ap collapse e ∙ collapse-arrows cs b) p) (all_typed M Γ qs cs g);
    full = full_spine (symbol_arity F) 0 h qs (f (length qs + 0)) (all_full M Γ qs cs g);
  }

  -- the member at a place
  member_sifted : (M : List Declared) (Γ : List Ty) (qs : List Tm) (cs : List Ty) → AllSifted M Γ qs cs → (i : ℕ) → i < length cs → Sifted M Γ (get_or qs i (fun 0)) (collapse (type_at cs i))
  member_sifted M Γ [] [] h i l = absurd (omega (arith, l))
  member_sifted M Γ [] (c ∷ cs) h i l = absurd h
  member_sifted M Γ (q ∷ qs) [] h i l = absurd h
  member_sifted M Γ (q ∷ qs) (c ∷ cs) h zero l = h.0
  member_sifted M Γ (q ∷ qs) (c ∷ cs) h (suc i) l = member_sifted M Γ qs cs h.1 i (omega (arith, l))

  chosen_typed : (M : List Declared) (Γ : List Ty) (qs : List Tm) (cs : List Ty) → AllSifted M Γ qs cs → (from : ℕ) (is : List ℕ) → IncreasingFrom from (length cs) is
      → AllTyped F M Γ (tms_of (chosen is qs)) (map (λ i. collapse (type_at cs i)) is)
  chosen_typed M Γ qs cs h from [] l = typed_none
  chosen_typed M Γ qs cs h from (i ∷ is) l = typed_more (member_sifted M Γ qs cs h i l.1).typed (chosen_typed M Γ qs cs h (suc i) is l.2)

  chosen_full : (M : List Declared) (Γ : List Ty) (qs : List Tm) (cs : List Ty) → AllSifted M Γ qs cs → (from : ℕ) (is : List ℕ) → IncreasingFrom from (length cs) is
      → AllByRecursion (Full F 0) (chosen is qs)
  chosen_full M Γ qs cs h from [] l = tt
  chosen_full M Γ qs cs h from (i ∷ is) l = ((member_sifted M Γ qs cs h i l.1).full, chosen_full M Γ qs cs h (suc i) is l.2)

  chosen_length : (is : List ℕ) (qs : List Tm) → length (chosen is qs) ≡ length is
  chosen_length [] qs = refl
  chosen_length (i ∷ is) qs = ap suc (chosen_length is qs)

  kept_arity : (cs : List Ty) (is : List ℕ) → length (arguments (arrows (map (λ i. collapse (type_at cs i)) is) (sort 0))) ≡ length is
  kept_arity cs [] = refl
  kept_arity cs (i ∷ is) = ap suc (kept_arity cs is)

  -- a symbol with all its arguments, by its filter
  pub filtered_sifted : (M : List Declared) (Γ : List Ty) (f : ℕ) (qs : List Tm) (cs : List Ty) (P : Filter) → IsProper cs P → slice_get F.funs f ≡ Some (kept_type cs P) → AllSifted M Γ qs cs
      → Sifted M Γ (filtered P f qs) (sort 0)
  filtered_sifted M Γ f qs cs (keep p is) l e h = record {
    typed = typed_spine (fun f) (chosen is qs) (map (λ i. collapse (type_at cs i)) is) (typed_fun e) (chosen_typed M Γ qs cs h 0 is l);
    full = full_spine (symbol_arity F) 0 (fun f) (chosen is qs) (count ∙ sym (ap (λ a. length (arguments a)) (at_is F.funs f (kept_type cs (keep p is)) e))) (chosen_full M Γ qs cs h 0 is l);
  }
    where
      count : length (chosen is qs) + 0 ≡ length (arguments (kept_type cs (keep p is)))
      count = omega (arith, chosen_length is qs, kept_arity cs is)
  filtered_sifted M Γ f qs cs (pick i) (s, at) e h =
      subst (λ a. Sifted M Γ (get_or qs i (fun 0)) (collapse a)) (at_is cs i (sort s) at) (member_sifted M Γ qs cs h i (below cs i at))
    where
      below : (cs : List Ty) (i : ℕ) → slice_get cs i ≡ Some (sort s) → i < length cs
      below [] i e = absurd (cc)
      below (c ∷ cs) zero e = omega arith
      below (c ∷ cs) (suc i) e = omega (arith, below cs i e)

  -- all arguments of the type
  all_arguments : (a : Ty) (cs : List Ty) (b : Ty) → a ≡ arrows cs b → length cs ≡ length (arguments a) → (cs ≡ arguments a) × (collapse b ≡ sort 0)
  all_arguments a cs b e n =
      let (same, result) = arrows_one cs (arguments a) b (sort (result_sort a)) n (sym e ∙ arrows-arguments a) in
      (same, ap collapse result)

  mutual
    unfolding sift sifts

    -- a filtered tree is typed and full, with as many arguments behind it as it takes
    pub sift_sifted : {M : List Declared} {Γ : List Ty} {t : Tm} {a : Ty} → Typed S M Γ t a → (n : ℕ) → Full S n t → (qs : List Tm) → length qs ≡ n → (cs : List Ty) (b : Ty) → a ≡ arrows cs b
        → AllSifted (collapsed M) (map collapse Γ) qs cs → Sifted (collapsed M) (map collapse Γ) (sift Φ t qs) (collapse b)
    sift_sifted {Γ = Γ} (typed_bound {i = i} {a = a} e) n f qs l cs b d h = headed (bound i) a qs cs b d (typed_bound (get_collapsed Γ i a e)) (λ m. tt) h
    sift_sifted (typed_free {x = x} {a = a} p) n f qs l cs b d h = headed (free x (collapse a)) a qs cs b d (typed_free (collapse-known F.sorts into.some_sort a)) (λ m. tt) h
    sift_sifted {M = M} {Γ = Γ} (typed_fun {f = g} {a = a} e) n f qs l cs b d h =
        let count : length cs ≡ length (arguments a) = sym (sifted_length (collapsed M) (map collapse Γ) qs cs h) ∙ l ∙ f ∙ ap (λ a. length (arguments a)) (at_is S.funs g a e) in
        let (same, result) = all_arguments a cs b d count in
        subst (Sifted (collapsed M) (map collapse Γ) (filtered (Φ g) g qs)) (sym result)
        (filtered_sifted (collapsed M) (map collapse Γ) g qs (arguments a) (Φ g) (into.proper g a e) (into.kept g a e) (subst (AllSifted (collapsed M) (map collapse Γ) qs) same h))
    sift_sifted {M = M} {Γ = Γ} (typed_meta {z = z} {ts = ts} {d = c} {a = a} e ps o) n f qs l cs b d h =
        let (qt, qf) = sifts_sifted ps f in
        headed (meta z (sifts Φ ts)) a qs cs b d (typed_meta (get_declared M z c e) qt (ap collapse o)) (λ m. qf) h
    sift_sifted {M = M} {Γ = Γ} (typed_lam {a = c} {b = k} {t = t} s p) n f qs l cs b d h =
        let inner = sift_sifted p 0 f [] refl [] k refl tt in
        headed (lam (collapse c) (sift Φ t [])) (c ⇒ k) qs cs b d (typed_lam (collapse-known F.sorts into.some_sort c) inner.typed) (λ m. inner.full) h
    sift_sifted (typed_app {a = c} {u = u} p q) n f qs l cs b d h =
        sift_sifted p (suc n) f.0 (sift Φ u [] ∷ qs) (ap suc l) (c ∷ cs) b (ap (λ a. c ⇒ a) d) (sift_sifted q 0 f.1 [] refl [] c refl tt, h)

    sifts_sifted : {M : List Declared} {Γ : List Ty} {ts : Tms} {cs : List Ty} → AllTyped S M Γ ts cs → AllFull (symbol_arity S) ts
        → AllTyped F (collapsed M) (map collapse Γ) (sifts Φ ts) (map collapse cs) × AllFull (symbol_arity F) (sifts Φ ts)
    sifts_sifted typed_none f = (typed_none, tt)
    sifts_sifted (typed_more {a = a} p ps) f =
        let one = sift_sifted p 0 f.0 [] refl [] a refl tt in
        let (qt, qf) = sifts_sifted ps f.1 in
        (typed_more one.typed qt, (one.full, qf))

  -- the filtered tree of a full typed tree
  pub sift_typed : {M : List Declared} {Γ : List Ty} {t : Tm} {a : Ty} → Typed S M Γ t a → Full S 0 t → Typed F (collapsed M) (map collapse Γ) (sift Φ t []) (collapse a)
  sift_typed {a = a} p f = (sift_sifted p 0 f [] refl [] a refl tt).typed

  pub sift_full : {M : List Declared} {Γ : List Ty} {t : Tm} {a : Ty} → Typed S M Γ t a → Full S 0 t → Full F 0 (sift Φ t [])
  sift_full {a = a} p f = (sift_sifted p 0 f [] refl [] a refl tt).full
