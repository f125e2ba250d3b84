-- Canonical raw trees pass the tests of a side: one law for one argument more, and one for each test.
use Rattle.std.proofs.Common.{◌≡◌, ◌≢◌, ℕ, ◌+◌, ◌≤◌, max, false, List, [], ◌++◌, length, Some, refl, ap, ap₂, sym, ◌∙◌, subst, arith}
use Rattle.std.specs.Prelude.{◌==◌}
use Rattle.wh_types.specs.Ty.{Ty, sort, ◌⇒◌, arguments}
use Rattle.wh_terms.specs.Tree.{Tm, bound, free, fun, meta, lam, app, Tms, none as no_tms, more as more_tms, head, argument_count}
use Rattle.wh_terms.specs.Sight.{NoFree, AllNoFree}
use Rattle.wh_terms.specs.Measures.{risen, height, heights, SpinesWithin, AllSpinesWithin}
use Rattle.wh_text.specs.RawTree.{RTm, named, numbered, free_variable, meta as raw_meta, lam as raw_lam, spine, RTms, none, more}
use Rattle.wh_system_parts.specs.Naming.{Scope}
use Rattle.wh_system_parts.specs.Tests.{width_of_type, width_of_types, width_of_term, widths_of_terms, width_of_arguments, arguments_of, count_of, raw_height, raw_heights}
use Rattle.wh_system_parts.specs.RuleTests.{open_tests, opens_tests, head_symbol}
use Rattle.wh_system.specs.WellMade.{ArgumentsWithin, TypesWithin, AllTypesWithin}
use Rattle.wh_system.specs.Canonical.{Names, raw_type_of, raw_arguments_of, and_last, with_argument, raw_below, each_raw_below, IsNamedBelow}
use Rattle.wh_system_making.proofs.PassedLaws.{Passed, passed_first, passed_rest, passed_parts}
use Rattle.wh_system_making.proofs.TypedPassed.{no_test, and_test, and_tests}
use Rattle.wh_system_making.proofs.CanonicalNames.{number_at, apart_number}
use Rattle.wh_system_making.proofs.CanonicalBack.{names_in, IsClear}

-- widths of types

other-than : (k n : ℕ) → k ≢ n → (k == n) ≡ false
other-than k n other = grind arith

type-starts : (sorts : List (List ℕ)) (a : Ty) → width_of_type (raw_type_of sorts a) ≡ width_of_types 0 (raw_arguments_of sorts a)
type-starts sorts (sort s) = refl
type-starts sorts (a ⇒ b) = refl

few-arguments : (n : ℕ) (a : Ty) → ArgumentsWithin n a → length (arguments a) ≤ n
few-arguments n (sort s) w = omega arith
few-arguments n (a ⇒ b) w = omega (arith, w.0)

widths-passed : (sorts : List (List ℕ)) (a : Ty) (k : ℕ) → ArgumentsWithin 32 a → k + length (arguments a) ≤ 32 → Passed (width_of_types k (raw_arguments_of sorts a))
widths-passed sorts (sort s) k w room = no_test
widths-passed sorts (a ⇒ b) k w room =
    and_test _ _ (other-than k 32 (λ e. omega arith))
    (and_tests (width_of_type (raw_type_of sorts a)) _ (subst Passed (sym (type-starts sorts a)) (widths-passed sorts a 0 w.1 (let few = few-arguments 32 a w.1 in omega arith)))
    (widths-passed sorts b (k + 1) w.2 (omega arith)))

pub width_passed : (sorts : List (List ℕ)) (a : Ty) → ArgumentsWithin 32 a → Passed (width_of_type (raw_type_of sorts a))
width_passed sorts a w = subst Passed (sym (type-starts sorts a)) (widths-passed sorts a 0 w (let few = few-arguments 32 a w in omega arith))

-- how many arguments there are

last-count : (ts : RTms) (u : RTm) → count_of (and_last ts u) ≡ count_of ts + 1
last-count none u = refl
last-count (more t ts) u = ap (λ n. n + 1) (last-count ts u)

with-count : (h u : RTm) → arguments_of (with_argument h u) ≡ arguments_of h + 1
with-count (named n at) u = refl
with-count (numbered k at) u = refl
with-count (free_variable k a at) u = refl
with-count (raw_meta n ts at) u = refl
with-count (raw_lam x a t at) u = refl
with-count (spine h ts at) u = let e : count_of (and_last ts u) ≡ count_of ts + 1 = last-count ts u in omega arith

pub raw_count : (n : Names) (d : ℕ) (t : Tm) → arguments_of (raw_below n d t) ≡ argument_count t
raw_count n d (bound i) = refl
raw_count n d (free x a) = refl
raw_count n d (fun f) = refl
raw_count n d (meta z no_tms) = refl
raw_count n d (meta z (more_tms t ts)) = refl
raw_count n d (lam a t) = refl
raw_count n d (app t u) = with-count (raw_below n d t) (raw_below n d u) ∙ ap (λ k. k + 1) (raw_count n d t)

-- widths of terms

last-width : (k : ℕ) (ts : RTms) (u : RTm) → k + count_of ts ≢ 32 → Passed (width_of_arguments k ts) → Passed (width_of_term u) → Passed (width_of_arguments k (and_last ts u))
last-width k none u other p q = and_test _ _ (other-than k 32 (λ e. other (omega arith))) (and_tests (width_of_term u) [] q no_test)
last-width k (more t ts) u other p q =
    let parts = passed_parts (width_of_term t) (width_of_arguments (k + 1) ts) (passed_rest p) in
    and_test _ _ (passed_first p) (and_tests (width_of_term t) _ parts.0 (last-width (k + 1) ts u (λ e. other (omega arith)) parts.1 q))

with-width : (h u : RTm) → arguments_of h ≢ 32 → Passed (width_of_term h) → Passed (width_of_term u) → Passed (width_of_term (with_argument h u))
with-width (named n at) u other p q = last-width 0 none u other no_test q
with-width (numbered k at) u other p q = last-width 0 none u other no_test q
with-width (free_variable k a at) u other p q = and_tests (width_of_type a) _ p (last-width 0 none u other no_test q)
with-width (raw_meta n ts at) u other p q = and_tests (widths_of_terms ts) _ p (last-width 0 none u other no_test q)
with-width (raw_lam x a t at) u other p q = and_tests (width_of_type a ++ width_of_term t) _ p (last-width 0 none u other no_test q)
with-width (spine h ts at) u other p q =
    let parts = passed_parts (width_of_term h) (width_of_arguments (arguments_of h) ts) p in
    and_tests (width_of_term h) _ parts.0 (last-width (arguments_of h) ts u other parts.1 q)

mutual
  pub raw_width : (n : Names) (t : Tm) (d : ℕ) → SpinesWithin 32 t → TypesWithin 32 t → Passed (width_of_term (raw_below n d t))
  raw_width n (bound i) d w v = no_test
  raw_width n (free x a) d w v = width_passed n.sorts a v
  raw_width n (fun f) d w v = no_test
  raw_width n (meta z no_tms) d w v = no_test
  raw_width n (meta z (more_tms t ts)) d w v = and_tests (width_of_term (raw_below n d t)) _ (raw_width n t d w.0 v.0) (each_raw_width n ts d w.1 v.1)
  raw_width n (lam a t) d w v = and_tests (width_of_type (raw_type_of n.sorts a)) _ (width_passed n.sorts a v.0) (raw_width n t (d + 1) w v.1)
  raw_width n (app t u) d w v =
      with-width (raw_below n d t) (raw_below n d u) (λ e. let same : arguments_of (raw_below n d t) ≡ argument_count t = raw_count n d t in omega (arith, w.0)) (raw_width n t d w.1 v.0) (raw_width n u d w.2 v.1)

  each_raw_width : (n : Names) (ts : Tms) (d : ℕ) → AllSpinesWithin 32 ts → AllTypesWithin 32 ts → Passed (widths_of_terms (each_raw_below n d ts))
  each_raw_width n no_tms d w v = no_test
  each_raw_width n (more_tms t ts) d w v = and_tests (width_of_term (raw_below n d t)) _ (raw_width n t d w.0 v.0) (each_raw_width n ts d w.1 v.1)

-- heights

-- what a tree gives to the height of a longer spine that it begins
abbrev raw_risen : RTm → ℕ → ℕ
raw_risen (spine h ts at) k = k
raw_risen _ k = 1 + k

last-heights : (ts : RTms) (u : RTm) → raw_heights (and_last ts u) ≡ max (raw_heights ts) (raw_height u)
last-heights none u = omega arith
last-heights (more t ts) u = ap (max (raw_height t)) (last-heights ts u) ∙ omega arith

with-height : (h u : RTm) → raw_height (with_argument h u) ≡ max (raw_risen h (raw_height h)) (1 + raw_height u)
with-height (named n at) u = omega arith
with-height (numbered k at) u = omega arith
with-height (free_variable k a at) u = omega arith
with-height (raw_meta n ts at) u = go (raw_height (raw_meta n ts at)) (raw_height u)
  where
    go : (a b : ℕ) → 1 + max a (max b 0) ≡ max (1 + a) (1 + b)
    go a b = omega arith
with-height (raw_lam x a t at) u = go (raw_height t) (raw_height u)
  where
    go : (a b : ℕ) → 1 + max (1 + a) (max b 0) ≡ max (1 + (1 + a)) (1 + b)
    go a b = omega arith
with-height (spine h ts at) u = ap (λ k. 1 + max (raw_height h) k) (last-heights ts u) ∙ go (raw_height h) (raw_heights ts) (raw_height u)
  where
    go : (a b c : ℕ) → 1 + max a (max b c) ≡ max (1 + max a b) (1 + c)
    go a b c = omega arith

with-risen : (h u : RTm) (k : ℕ) → raw_risen (with_argument h u) k ≡ k
with-risen (named n at) u k = refl
with-risen (numbered m at) u k = refl
with-risen (free_variable m a at) u k = refl
with-risen (raw_meta n ts at) u k = refl
with-risen (raw_lam x a t at) u k = refl
with-risen (spine h ts at) u k = refl

same-risen : (n : Names) (d : ℕ) (t : Tm) (k : ℕ) → raw_risen (raw_below n d t) k ≡ risen t k
same-risen n d (bound i) k = refl
same-risen n d (free x a) k = refl
same-risen n d (fun f) k = refl
same-risen n d (meta z no_tms) k = refl
same-risen n d (meta z (more_tms t ts)) k = refl
same-risen n d (lam a t) k = refl
same-risen n d (app t u) k = with-risen (raw_below n d t) (raw_below n d u) k

mutual
  pub raw_height_is : (n : Names) (t : Tm) (d : ℕ) → raw_height (raw_below n d t) ≡ height t
  raw_height_is n (bound i) d = refl
  raw_height_is n (free x a) d = refl
  raw_height_is n (fun f) d = refl
  raw_height_is n (meta z no_tms) d = refl
  raw_height_is n (meta z (more_tms t ts)) d = ap₂ (λ a b. 1 + max a b) (raw_height_is n t d) (raw_heights_are n ts d)
  raw_height_is n (lam a t) d = ap (λ k. 1 + k) (raw_height_is n t (d + 1))
  raw_height_is n (app t u) d =
      with-height (raw_below n d t) (raw_below n d u) ∙ ap₂ (λ a b. max a (1 + b)) (same-risen n d t (raw_height (raw_below n d t)) ∙ ap (risen t) (raw_height_is n t d)) (raw_height_is n u d)

  raw_heights_are : (n : Names) (ts : Tms) (d : ℕ) → raw_heights (each_raw_below n d ts) ≡ heights ts
  raw_heights_are n no_tms d = refl
  raw_heights_are n (more_tms t ts) d = ap₂ max (raw_height_is n t d) (raw_heights_are n ts d)

-- no free variables

last-open : (ts : RTms) (u : RTm) → Passed (opens_tests ts) → Passed (open_tests u) → Passed (opens_tests (and_last ts u))
last-open none u p q = and_tests (open_tests u) [] q no_test
last-open (more t ts) u p q =
    let parts = passed_parts (open_tests t) (opens_tests ts) p in and_tests (open_tests t) _ parts.0 (last-open ts u parts.1 q)

with-open : (h u : RTm) → Passed (open_tests h) → Passed (open_tests u) → Passed (open_tests (with_argument h u))
with-open (named n at) u p q = last-open none u no_test q
with-open (numbered k at) u p q = last-open none u no_test q
with-open (free_variable k a at) u p q = and_tests (open_tests (free_variable k a at)) _ p (last-open none u no_test q)
with-open (raw_meta n ts at) u p q = and_tests (opens_tests ts) _ p (last-open none u no_test q)
with-open (raw_lam x a t at) u p q = and_tests (open_tests t) _ p (last-open none u no_test q)
with-open (spine h ts at) u p q =
    let parts = passed_parts (open_tests h) (opens_tests ts) p in and_tests (open_tests h) _ parts.0 (last-open ts u parts.1 q)

mutual
  pub raw_closed : (n : Names) (t : Tm) (d : ℕ) → NoFree t → Passed (open_tests (raw_below n d t))
  raw_closed n (bound i) d w = no_test
  raw_closed n (free x a) d w = absurd w
  raw_closed n (fun f) d w = no_test
  raw_closed n (meta z no_tms) d w = no_test
  raw_closed n (meta z (more_tms t ts)) d w = and_tests (open_tests (raw_below n d t)) _ (raw_closed n t d w.0) (each_raw_closed n ts d w.1)
  raw_closed n (lam a t) d w = raw_closed n t (d + 1) w
  raw_closed n (app t u) d w = with-open (raw_below n d t) (raw_below n d u) (raw_closed n t d w.0) (raw_closed n u d w.1)

  each_raw_closed : (n : Names) (ts : Tms) (d : ℕ) → AllNoFree ts → Passed (opens_tests (each_raw_below n d ts))
  each_raw_closed n no_tms d w = no_test
  each_raw_closed n (more_tms t ts) d w = and_tests (open_tests (raw_below n d t)) _ (raw_closed n t d w.0) (each_raw_closed n ts d w.1)

-- the head

with-head : (s : Scope) (h u : RTm) → head_symbol s (with_argument h u) ≡ head_symbol s h
with-head s (named n at) u = refl
with-head s (numbered k at) u = refl
with-head s (free_variable k a at) u = refl
with-head s (raw_meta n ts at) u = refl
with-head s (raw_lam x a t at) u = refl
with-head s (spine h ts at) u = refl

pub raw_head : (s : Scope) → IsClear s → (t : Tm) (f : ℕ) → IsNamedBelow (names_in s) 0 t → head t ≡ fun f → head_symbol s (raw_below (names_in s) 0 t) ≡ Some f
raw_head s w (bound i) f all e = absurd (cc)
raw_head s w (free x a) f all e = absurd (cc)
raw_head s w (fun g) f all e =
    let same : g ≡ f = cc in
    rw (apart_number s.metas s.funs g w.apart all) (number_at s.funs g w.funs all ∙ ap (λ k. Some k) same)
raw_head s w (meta z ts) f all e = absurd (cc)
raw_head s w (lam a t) f all e = absurd (cc)
raw_head s w (app t u) f all e = with-head s (raw_below (names_in s) 0 t) (raw_below (names_in s) 0 u) ∙ raw_head s w t f all.0 e
