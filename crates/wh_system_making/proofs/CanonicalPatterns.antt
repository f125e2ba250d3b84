-- Canonical raw trees pass the tests of patterns and of the meta-variables that occur.
use Rattle.std.proofs.Common.{◌≡◌, ◌≢◌, ℕ, ◌+◌, ◌-◌, ◌⊎◌, inl, inr, Bool, true, false, not, ◌&&◌, ◌||◌, List, [], ◌∷◌, Some, is_some, unwrap_or, refl, ap, ap₂, sym, ◌∙◌, subst, arith}
use Rattle.std.specs.Prelude.{◌==◌}
use Rattle.wh_terms.specs.Tree.{Tm, bound, free, fun, meta, lam, app, Tms, none as no_tms, more as more_tms}
use Rattle.wh_terms.specs.Sight.{Occurs, OccursIn}
use Rattle.wh_terms.specs.Pattern.{AllBoundBelow, Misses, Distinct, IsPatternUnder, IsPatternSpine}
use Rattle.wh_text.specs.RawTree.{Binder, RTm, named, numbered, free_variable, meta as raw_meta, lam as raw_lam, spine, RTms, none, more}
use Rattle.wh_system_parts.specs.Naming.{is_declared, Scope}
use Rattle.wh_system_parts.specs.RuleTests.{bound_number, is_new, are_distinct, is_pattern_head, pattern_tests, patterns_tests, occurs, any_occurs, new_meta_tests, new_metas_tests}
use Rattle.wh_system.specs.Canonical.{Names, name_at, and_last, with_argument, raw_below, each_raw_below, IsNamedBelow, AreNamedBelow}
use Rattle.wh_system_making.proofs.PassedLaws.{Passed, passed_first, passed_rest, passed_parts}
use Rattle.wh_system_making.proofs.TypedPassed.{no_test, and_test, and_tests}
use Rattle.wh_system_making.proofs.CanonicalNames.{number_at, apart_number, numbers_below, numbers_next, binder_back, no_binder_back, name_alone}
use Rattle.wh_system_making.proofs.CanonicalBack.{names_in, IsClear}

-- distinct bound variables

abbrev AllMissed : List ℕ → Tms → Type 0
AllMissed [] us = Unit {0}
AllMissed (j ∷ seen) us = Misses j us × AllMissed seen us

missed-new : (i : ℕ) (seen : List ℕ) (us : Tms) → AllMissed seen (more_tms (bound i) us) → (is_new (Some i) seen ≡ true) × AllMissed seen us
missed-new i [] us missed = (refl, tt)
missed-new i (j ∷ seen) us missed =
    let rest = missed-new i seen us missed.1 in
    (ap₂ (λ b c. not b && c) (other-than i j (λ e. missed.0.0 (sym e))) rest.0, (missed.0.1, rest.1))
  where
    other-than : (k n : ℕ) → k ≢ n → (k == n) ≡ false
    other-than k n other = grind arith

distinct-raw : (n : Names) (d : ℕ) (us : Tms) (seen : List ℕ) → AllBoundBelow d us → Distinct us → AllMissed seen us → are_distinct (numbers_below d) seen (each_raw_below n d us) ≡ true
distinct-raw n d no_tms seen b w missed = refl
distinct-raw n d (more_tms (bound i) us) seen b w missed =
    let here = missed-new i seen us missed in
    let number : bound_number (numbers_below d) (numbered (d - (i + 1)) 0) ≡ Some i = binder_back d i b.0 in
    ap (λ o. is_new o seen && are_distinct (numbers_below d) (unwrap_or o 0 ∷ seen) (each_raw_below n d us)) number
    ∙ ap₂ (λ x y. x && y) here.0 (distinct-raw n d us (i ∷ seen) b.1 w.1 (w.0, here.1))
distinct-raw n d (more_tms (free x a) us) seen b w missed = absurd b
distinct-raw n d (more_tms (fun f) us) seen b w missed = absurd b
distinct-raw n d (more_tms (meta z ts) us) seen b w missed = absurd b
distinct-raw n d (more_tms (lam a t) us) seen b w missed = absurd b
distinct-raw n d (more_tms (app t u) us) seen b w missed = absurd b

-- patterns

-- the tree may begin a spine of a pattern
abbrev IsFront : Scope → List Binder → RTm → Type 0
IsFront s bs (spine h ts at) = Passed (pattern_tests s bs (spine h ts at))
IsFront s bs h = is_pattern_head s bs h ≡ true

last-pattern : (s : Scope) (bs : List Binder) (ts : RTms) (u : RTm) → Passed (patterns_tests s bs ts) → Passed (pattern_tests s bs u) → Passed (patterns_tests s bs (and_last ts u))
last-pattern s bs none u p q = and_tests (pattern_tests s bs u) [] q no_test
last-pattern s bs (more t ts) u p q =
    let parts = passed_parts (pattern_tests s bs t) (patterns_tests s bs ts) p in and_tests (pattern_tests s bs t) _ parts.0 (last-pattern s bs ts u parts.1 q)

with-pattern : (s : Scope) (bs : List Binder) (h u : RTm) → IsFront s bs h → Passed (pattern_tests s bs u) → Passed (pattern_tests s bs (with_argument h u))
with-pattern s bs (named n at) u front q = and_test _ _ (ap not front) (last-pattern s bs none u no_test q)
with-pattern s bs (numbered k at) u front q = and_test _ _ (ap not front) (last-pattern s bs none u no_test q)
with-pattern s bs (free_variable k a at) u front q = and_test _ _ (ap not front) (last-pattern s bs none u no_test q)
with-pattern s bs (raw_meta n ts at) u front q = and_test _ _ (ap not front) (last-pattern s bs none u no_test q)
with-pattern s bs (raw_lam x a t at) u front q = and_test _ _ (ap not front) (last-pattern s bs none u no_test q)
with-pattern s bs (spine h ts at) u front q = and_test _ _ (passed_first front) (last-pattern s bs ts u (passed_rest front) q)

with-front : (s : Scope) (bs : List Binder) (h u : RTm) → Passed (pattern_tests s bs (with_argument h u)) → IsFront s bs (with_argument h u)
with-front s bs (named n at) u p = p
with-front s bs (numbered k at) u p = p
with-front s bs (free_variable k a at) u p = p
with-front s bs (raw_meta n ts at) u p = p
with-front s bs (raw_lam x a t at) u p = p
with-front s bs (spine h ts at) u p = p

mutual
  pub raw_pattern : (s : Scope) → IsClear s → (t : Tm) (d : ℕ) → IsNamedBelow (names_in s) d t → IsPatternUnder d t → Passed (pattern_tests s (numbers_below d) (raw_below (names_in s) d t))
  raw_pattern s w (bound i) d all p = no_test
  raw_pattern s w (free x a) d all p = absurd p
  raw_pattern s w (fun f) d all p = no_test
  raw_pattern s w (meta z no_tms) d all p = no_test
  raw_pattern s w (meta z (more_tms t ts)) d all p = and_test _ [] (ap not (distinct-raw (names_in s) d (more_tms t ts) [] p.0 p.1 tt)) no_test
  raw_pattern s w (lam a t) d all p = subst (λ bs. Passed (pattern_tests s bs (raw_below (names_in s) (d + 1) t))) (numbers_next d) (raw_pattern s w t (d + 1) all.1 p)
  raw_pattern s w (app t u) d all p =
      with-pattern s (numbers_below d) (raw_below (names_in s) d t) (raw_below (names_in s) d u) (raw_front s w t d all.0 p.0) (raw_pattern s w u d all.1 p.1)

  raw_front : (s : Scope) → IsClear s → (t : Tm) (d : ℕ) → IsNamedBelow (names_in s) d t → IsPatternSpine d t → IsFront s (numbers_below d) (raw_below (names_in s) d t)
  raw_front s w (bound i) d all p = refl
  raw_front s w (fun f) d all p = ap₂ (λ o q. is_some o || not (is_some q)) (no_binder_back d (name_at s.funs f)) (apart_number s.metas s.funs f w.apart all)
  raw_front s w (app t u) d all p =
      with-front s (numbers_below d) (raw_below (names_in s) d t) (raw_below (names_in s) d u) (with-pattern s (numbers_below d) (raw_below (names_in s) d t) (raw_below (names_in s) d u) (raw_front s w t d all.0 p.0) (raw_pattern s w u d all.1 p.1))
  raw_front s w (free x a) d all p = absurd p
  raw_front s w (meta z ts) d all p = absurd p
  raw_front s w (lam a t) d all p = absurd p

-- which meta-variables occur

or-first : (a b : Bool) → a ≡ true → (a || b) ≡ true
or-first a b e = ap (λ c. c || b) e

or-second : (a b : Bool) → b ≡ true → (a || b) ≡ true
or-second true b e = refl
or-second false b e = e

or-rest : (a b c : Bool) → (a || b) ≡ true → (b ≡ true → c ≡ true) → (a || c) ≡ true
or-rest true b c e f = refl
or-rest false b c e f = f e

either-way : (a b c : Bool) → a ≡ true ⊎ (b ≡ true) → (a || (b || c)) ≡ true
either-way a b c (inl e) = or-first a (b || c) e
either-way a b c (inr e) = or-second a (b || c) (or-first b c e)

last-occurs : (s : Scope) (bs : List Binder) (name : List ℕ) (ts : RTms) (u : RTm) → (any_occurs s bs name ts ≡ true) ⊎ (occurs s bs name u ≡ true) → any_occurs s bs name (and_last ts u) ≡ true
last-occurs s bs name none u (inl e) = absurd (cc)
last-occurs s bs name none u (inr e) = or-first (occurs s bs name u) false e
last-occurs s bs name (more t ts) u (inl e) = or-rest (occurs s bs name t) (any_occurs s bs name ts) _ e (λ h. last-occurs s bs name ts u (inl h))
last-occurs s bs name (more t ts) u (inr e) = or-second (occurs s bs name t) _ (last-occurs s bs name ts u (inr e))

with-occurs : (s : Scope) (bs : List Binder) (name : List ℕ) (h u : RTm) → (occurs s bs name h ≡ true) ⊎ (occurs s bs name u ≡ true) → occurs s bs name (with_argument h u) ≡ true
with-occurs s bs name (named n at) u e = either-way _ (occurs s bs name u) false e
with-occurs s bs name (numbered k at) u (inl e) = absurd (cc)
with-occurs s bs name (numbered k at) u (inr e) = or-first (occurs s bs name u) false e
with-occurs s bs name (free_variable k a at) u (inl e) = absurd (cc)
with-occurs s bs name (free_variable k a at) u (inr e) = or-first (occurs s bs name u) false e
with-occurs s bs name (raw_meta n ts at) u e = either-way (occurs s bs name (raw_meta n ts at)) (occurs s bs name u) false e
with-occurs s bs name (raw_lam x a t at) u e = either-way (occurs s bs name (raw_lam x a t at)) (occurs s bs name u) false e
with-occurs s bs name (spine h ts at) u (inl e) = or-rest (occurs s bs name h) (any_occurs s bs name ts) _ e (λ k. last-occurs s bs name ts u (inl k))
with-occurs s bs name (spine h ts at) u (inr e) = or-second (occurs s bs name h) _ (last-occurs s bs name ts u (inr e))

mutual
  pub raw_occurs : (s : Scope) → IsClear s → (t : Tm) (d z : ℕ) → IsNamedBelow (names_in s) d t → Occurs z t → occurs s (numbers_below d) (name_at s.metas z) (raw_below (names_in s) d t) ≡ true
  raw_occurs s w (bound i) d z all o = absurd o
  raw_occurs s w (free x a) d z all o = absurd o
  raw_occurs s w (fun f) d z all o = absurd o
  raw_occurs s w (meta y no_tms) d z all (inl e) =
      ap₂ (λ o q. (not (is_some o) && is_some q) && is_declared (name_at s.metas z ∷ []) (name_at s.metas y)) (no_binder_back d (name_at s.metas y)) (number_at s.metas y w.metas all.0)
      ∙ ap (λ y. is_declared (name_at s.metas z ∷ []) (name_at s.metas y)) e ∙ name_alone (name_at s.metas z)
  raw_occurs s w (meta y no_tms) d z all (inr o) = absurd o
  raw_occurs s w (meta y (more_tms t ts)) d z all (inl e) = or-first _ _ (ap (λ y. is_declared (name_at s.metas z ∷ []) (name_at s.metas y)) e ∙ name_alone (name_at s.metas z))
  raw_occurs s w (meta y (more_tms t ts)) d z all (inr (inl o)) =
      or-second (is_declared (name_at s.metas z ∷ []) (name_at s.metas y)) _ (or-first _ _ (raw_occurs s w t d z all.1.0 o))
  raw_occurs s w (meta y (more_tms t ts)) d z all (inr (inr o)) =
      or-second (is_declared (name_at s.metas z ∷ []) (name_at s.metas y)) _ (or-second (occurs s (numbers_below d) (name_at s.metas z) (raw_below (names_in s) d t)) _ (any_raw_occurs s w ts d z all.1.1 o))
  raw_occurs s w (lam a t) d z all o =
      ap (λ bs. occurs s bs (name_at s.metas z) (raw_below (names_in s) (d + 1) t)) (sym (numbers_next d)) ∙ raw_occurs s w t (d + 1) z all.1 o
  raw_occurs s w (app t u) d z all (inl o) = with-occurs s (numbers_below d) (name_at s.metas z) (raw_below (names_in s) d t) (raw_below (names_in s) d u) (inl (raw_occurs s w t d z all.0 o))
  raw_occurs s w (app t u) d z all (inr o) = with-occurs s (numbers_below d) (name_at s.metas z) (raw_below (names_in s) d t) (raw_below (names_in s) d u) (inr (raw_occurs s w u d z all.1 o))

  any_raw_occurs : (s : Scope) → IsClear s → (ts : Tms) (d z : ℕ) → AreNamedBelow (names_in s) d ts → OccursIn z ts → any_occurs s (numbers_below d) (name_at s.metas z) (each_raw_below (names_in s) d ts) ≡ true
  any_raw_occurs s w no_tms d z all o = absurd o
  any_raw_occurs s w (more_tms t ts) d z all (inl o) = or-first _ _ (raw_occurs s w t d z all.0 o)
  any_raw_occurs s w (more_tms t ts) d z all (inr o) = or-second (occurs s (numbers_below d) (name_at s.metas z) (raw_below (names_in s) d t)) _ (any_raw_occurs s w ts d z all.1 o)

-- no meta-variable of the right side is new

last-known : (s : Scope) (left : RTm) (bs : List Binder) (ts : RTms) (u : RTm) → Passed (new_metas_tests s left bs ts) → Passed (new_meta_tests s left bs u) → Passed (new_metas_tests s left bs (and_last ts u))
last-known s left bs none u p q = and_tests (new_meta_tests s left bs u) [] q no_test
last-known s left bs (more t ts) u p q =
    let parts = passed_parts (new_meta_tests s left bs t) (new_metas_tests s left bs ts) p in and_tests (new_meta_tests s left bs t) _ parts.0 (last-known s left bs ts u parts.1 q)

with-known : (s : Scope) (left : RTm) (bs : List Binder) (h u : RTm) → Passed (new_meta_tests s left bs h) → Passed (new_meta_tests s left bs u) → Passed (new_meta_tests s left bs (with_argument h u))
with-known s left bs (named n at) u p q = and_tests (new_meta_tests s left bs (named n at)) _ p (last-known s left bs none u no_test q)
with-known s left bs (numbered k at) u p q = last-known s left bs none u no_test q
with-known s left bs (free_variable k a at) u p q = last-known s left bs none u no_test q
with-known s left bs (raw_meta n ts at) u p q = and_tests (new_meta_tests s left bs (raw_meta n ts at)) _ p (last-known s left bs none u no_test q)
with-known s left bs (raw_lam x a t at) u p q = and_tests (new_meta_tests s left bs (raw_lam x a t at)) _ p (last-known s left bs none u no_test q)
with-known s left bs (spine h ts at) u p q =
    let parts = passed_parts (new_meta_tests s left bs h) (new_metas_tests s left bs ts) p in and_tests (new_meta_tests s left bs h) _ parts.0 (last-known s left bs ts u parts.1 q)

mutual
  pub raw_known : (s : Scope) → IsClear s → (left : RTm) (t : Tm) (d : ℕ) → IsNamedBelow (names_in s) d t → ((z : ℕ) → Occurs z t → occurs s [] (name_at s.metas z) left ≡ true)
      → Passed (new_meta_tests s left (numbers_below d) (raw_below (names_in s) d t))
  raw_known s w left (bound i) d all known = no_test
  raw_known s w left (free x a) d all known = no_test
  raw_known s w left (fun f) d all known =
      and_test _ [] (ap₂ (λ o q. (not (is_some o) && is_some q) && not (occurs s [] (name_at s.funs f) left)) (no_binder_back d (name_at s.funs f)) (apart_number s.metas s.funs f w.apart all)) no_test
  raw_known s w left (meta z no_tms) d all known =
      and_test _ [] (ap₂ (λ o q. (not (is_some o) && is_some q) && not (occurs s [] (name_at s.metas z) left)) (no_binder_back d (name_at s.metas z)) (number_at s.metas z w.metas all.0) ∙ ap not (known z (inl refl))) no_test
  raw_known s w left (meta z (more_tms t ts)) d all known =
      and_test _ _ (ap not (known z (inl refl)))
      (and_tests (new_meta_tests s left (numbers_below d) (raw_below (names_in s) d t)) _ (raw_known s w left t d all.1.0 (λ y o. known y (inr (inl o)))) (each_raw_known s w left ts d all.1.1 (λ y o. known y (inr (inr o)))))
  raw_known s w left (lam a t) d all known =
      subst (λ bs. Passed (new_meta_tests s left bs (raw_below (names_in s) (d + 1) t))) (numbers_next d) (raw_known s w left t (d + 1) all.1 known)
  raw_known s w left (app t u) d all known =
      with-known s left (numbers_below d) (raw_below (names_in s) d t) (raw_below (names_in s) d u) (raw_known s w left t d all.0 (λ y o. known y (inl o))) (raw_known s w left u d all.1 (λ y o. known y (inr o)))

  each_raw_known : (s : Scope) → IsClear s → (left : RTm) (ts : Tms) (d : ℕ) → AreNamedBelow (names_in s) d ts → ((z : ℕ) → OccursIn z ts → occurs s [] (name_at s.metas z) left ≡ true)
      → Passed (new_metas_tests s left (numbers_below d) (each_raw_below (names_in s) d ts))
  each_raw_known s w left no_tms d all known = no_test
  each_raw_known s w left (more_tms t ts) d all known =
      and_tests (new_meta_tests s left (numbers_below d) (raw_below (names_in s) d t)) _ (raw_known s w left t d all.0 (λ y o. known y (inl o))) (each_raw_known s w left ts d all.1 (λ y o. known y (inr o)))
