-- Places matter neither to what raw trees stand for nor to which tests fail.
use Rattle.std.proofs.Common.{◌≡◌, ℕ, ◌+◌, max, Bool, not, ◌&&◌, ◌||◌, List, [], ◌∷◌, ◌++◌, map, Option, unwrap_or, option_map, refl, ap, ap₂, sym, ◌∙◌, subst}
use Rattle.std.specs.Prelude.{◌==◌, nat_lt, option_and_then}
use Rattle.std.proofs.lemmas.List.{map-append}
use Rattle.wh_types.specs.Ty.{Ty, sort, ◌⇒◌}
use Rattle.wh_terms.specs.Tree.{Tm, free, meta, lam, app, more as more_tms}
use Rattle.wh_text.specs.RawTree.{RTy, raw_type, RTys, no_types, more_types, Binder, RTm, named, numbered, free_variable, meta as raw_meta, lam as raw_lam, spine, RTms, none, more}
use Rattle.wh_system_parts.specs.Faults.{Test}
use Rattle.wh_system_parts.specs.Naming.{number_of, is_declared, type_meant, arrows_meant, Scope, both, meant, all_meant, applied_meant}
use Rattle.wh_system_parts.specs.Kinds.{TypedBinder, declaration, takes, gives, where_true, meta_kind, kind_of, kinds_of, spine_kind}
use Rattle.wh_system_parts.specs.Tests.{sorts_of_type, sorts_of_types, width_of_type, width_of_types, count_of_types, type_tests, types_tests, arity_of, args_of, count_of, arguments_of, width_of_term, widths_of_terms, width_of_arguments, raw_height, raw_heights, raw_size, raw_sizes, raw_spine_size, side_tests, wanted_tests, naming_tests, namings_tests, applying_tests}
use Rattle.wh_system_parts.specs.RuleTests.{type_of_raw, types_of_raw, open_tests, opens_tests, head_symbol, bound_number, is_new, are_distinct, is_pattern_head, pattern_tests, patterns_tests, is_plain_meta, occurs, any_occurs, new_meta_tests, new_metas_tests}
use Rattle.wh_system_making.specs.Unplaced.{unplaced_type, unplaced_types, unplaced_term, unplaced_terms}
use Rattle.wh_system_making.proofs.PassedLaws.{Passed, passed_first, passed_rest}
use Rattle.wh_system_making.proofs.TypedPassed.{no_test, and_test}

-- the same tests fail
abbrev fails : List Test → List Bool
fails = map (λ t. t.fails)

pub record Alike (ts us : List Test) : Type 0 where
  pub same : fails ts ≡ fails us

pub alike : (ts : List Test) → Alike ts ts
alike ts = record { same = refl }

pub alike_next : {t u : Test} {ts us : List Test} → t.fails ≡ u.fails → Alike ts us → Alike (t ∷ ts) (u ∷ us)
alike_next e a = record { same = ap₂ (λ b bs. b ∷ bs) e a.same }

pub alike_parts : {ts ts' us us' : List Test} → Alike ts ts' → Alike us us' → Alike (ts ++ us) (ts' ++ us')
alike_parts {ts} {ts'} {us} {us'} a b = record { same = map-append (λ t. t.fails) ts us ∙ ap₂ (λ xs ys. xs ++ ys) a.same b.same ∙ sym (map-append (λ t. t.fails) ts' us') }

pub alike_passed : (ts us : List Test) → Alike ts us → Passed ts → Passed us
alike_passed [] [] a p = no_test
alike_passed [] (u ∷ us) a p = absurd (let e = a.same in cc)
alike_passed (t ∷ ts) [] a p = absurd (let e = a.same in cc)
alike_passed (t ∷ ts) (u ∷ us) a p =
    let first : t.fails ≡ u.fails = (let e = a.same in cc) in
    let rest : fails ts ≡ fails us = (let e = a.same in cc) in
    and_test u us (sym first ∙ passed_first p) (alike_passed ts us (record { same = rest }) (passed_rest p))

-- types

mutual
  pub type_unplaced : (sorts : List (List ℕ)) (a : RTy) → type_meant sorts (unplaced_type a) ≡ type_meant sorts a
  type_unplaced sorts (raw_type args s at) = arrows_unplaced sorts args (option_map sort (number_of sorts s))

  arrows_unplaced : (sorts : List (List ℕ)) (args : RTys) (o : Option Ty) → arrows_meant sorts (unplaced_types args) o ≡ arrows_meant sorts args o
  arrows_unplaced sorts no_types o = refl
  arrows_unplaced sorts (more_types a rest) o = ap₂ (λ p q. option_and_then (λ b. option_map (λ c. b ⇒ c) q) p) (type_unplaced sorts a) (arrows_unplaced sorts rest o)

mutual
  pub sorts_unplaced : (sorts : List (List ℕ)) (a : RTy) → Alike (sorts_of_type sorts (unplaced_type a)) (sorts_of_type sorts a)
  sorts_unplaced sorts (raw_type args s at) = alike_parts (all_sorts_unplaced sorts args) (alike_next refl (alike []))

  all_sorts_unplaced : (sorts : List (List ℕ)) (args : RTys) → Alike (sorts_of_types sorts (unplaced_types args)) (sorts_of_types sorts args)
  all_sorts_unplaced sorts no_types = alike []
  all_sorts_unplaced sorts (more_types a rest) = alike_parts (sorts_unplaced sorts a) (all_sorts_unplaced sorts rest)

mutual
  pub width_unplaced : (a : RTy) → Alike (width_of_type (unplaced_type a)) (width_of_type a)
  width_unplaced (raw_type args s at) = widths_unplaced args 0

  widths_unplaced : (args : RTys) (k : ℕ) → Alike (width_of_types k (unplaced_types args)) (width_of_types k args)
  widths_unplaced no_types k = alike []
  widths_unplaced (more_types a rest) k = alike_next refl (alike_parts (width_unplaced a) (widths_unplaced rest (k + 1)))

pub count_unplaced : (args : RTys) (k : ℕ) → Alike (count_of_types k (unplaced_types args)) (count_of_types k args)
count_unplaced no_types k = alike []
count_unplaced (more_types a rest) k = alike_next refl (count_unplaced rest (k + 1))

pub type_tests_unplaced : (sorts : List (List ℕ)) (a : RTy) → Alike (type_tests sorts (unplaced_type a)) (type_tests sorts a)
type_tests_unplaced sorts a = alike_parts (sorts_unplaced sorts a) (width_unplaced a)

pub types_tests_unplaced : (sorts : List (List ℕ)) (args : RTys) → Alike (types_tests sorts (unplaced_types args)) (types_tests sorts args)
types_tests_unplaced sorts no_types = alike []
types_tests_unplaced sorts (more_types a rest) = alike_parts (type_tests_unplaced sorts a) (types_tests_unplaced sorts rest)

pub raw_type_unplaced : (sorts : List (List ℕ)) (a : RTy) → type_of_raw sorts (unplaced_type a) ≡ type_of_raw sorts a
raw_type_unplaced sorts a = ap (λ o. unwrap_or o (sort 0)) (type_unplaced sorts a)

pub raw_types_unplaced : (sorts : List (List ℕ)) (args : RTys) → types_of_raw sorts (unplaced_types args) ≡ types_of_raw sorts args
raw_types_unplaced sorts no_types = refl
raw_types_unplaced sorts (more_types a rest) = ap₂ (λ b bs. b ∷ bs) (raw_type_unplaced sorts a) (raw_types_unplaced sorts rest)

-- what terms stand for, and their types

mutual
  pub meant_unplaced : (s : Scope) (t : RTm) (bs : List Binder) → meant s bs (unplaced_term t) ≡ meant s bs t
  meant_unplaced s (named n at) bs = refl
  meant_unplaced s (numbered k at) bs = refl
  meant_unplaced s (free_variable k a at) bs = ap (option_map (free k)) (type_unplaced s.sorts a)
  meant_unplaced s (raw_meta n ts at) bs = ap (both meta (number_of s.metas n)) (all_meant_unplaced s ts bs)
  meant_unplaced s (raw_lam x a t at) bs = ap₂ (both lam) (type_unplaced s.sorts a) (meant_unplaced s t (x ∷ bs))
  meant_unplaced s (spine h ts at) bs = applied_unplaced s ts bs (meant s bs (unplaced_term h)) ∙ ap (λ o. applied_meant s bs o ts) (meant_unplaced s h bs)

  all_meant_unplaced : (s : Scope) (ts : RTms) (bs : List Binder) → all_meant s bs (unplaced_terms ts) ≡ all_meant s bs ts
  all_meant_unplaced s none bs = refl
  all_meant_unplaced s (more t ts) bs = ap₂ (both more_tms) (meant_unplaced s t bs) (all_meant_unplaced s ts bs)

  applied_unplaced : (s : Scope) (ts : RTms) (bs : List Binder) (o : Option Tm) → applied_meant s bs o (unplaced_terms ts) ≡ applied_meant s bs o ts
  applied_unplaced s none bs o = refl
  applied_unplaced s (more t ts) bs o =
      applied_unplaced s ts bs (both app o (meant s bs (unplaced_term t))) ∙ ap (λ q. applied_meant s bs (both app o q) ts) (meant_unplaced s t bs)

abbrev binder : Binder → Option Ty → TypedBinder
binder x o = record { binder = x; kind = o }

mutual
  pub kind_unplaced : (s : Scope) (t : RTm) (bs : List TypedBinder) → kind_of s bs (unplaced_term t) ≡ kind_of s bs t
  kind_unplaced s (named n at) bs = refl
  kind_unplaced s (numbered k at) bs = refl
  kind_unplaced s (free_variable k a at) bs = type_unplaced s.sorts a
  kind_unplaced s (raw_meta n ts at) bs = ap (meta_kind (declaration s n)) (kinds_unplaced s ts bs)
  kind_unplaced s (raw_lam x a t at) bs =
      ap₂ (both (λ b c. b ⇒ c)) (type_unplaced s.sorts a)
      (ap (λ o. kind_of s (binder x o ∷ bs) (unplaced_term t)) (type_unplaced s.sorts a) ∙ kind_unplaced s t (binder x (type_meant s.sorts a) ∷ bs))
  kind_unplaced s (spine h ts at) bs = spine_kind_unplaced s ts bs (kind_of s bs (unplaced_term h)) ∙ ap (λ f. spine_kind s bs f ts) (kind_unplaced s h bs)

  kinds_unplaced : (s : Scope) (ts : RTms) (bs : List TypedBinder) → kinds_of s bs (unplaced_terms ts) ≡ kinds_of s bs ts
  kinds_unplaced s none bs = refl
  kinds_unplaced s (more t ts) bs = ap₂ (λ k ks. k ∷ ks) (kind_unplaced s t bs) (kinds_unplaced s ts bs)

  spine_kind_unplaced : (s : Scope) (ts : RTms) (bs : List TypedBinder) (f : Option Ty) → spine_kind s bs f (unplaced_terms ts) ≡ spine_kind s bs f ts
  spine_kind_unplaced s none bs f = refl
  spine_kind_unplaced s (more t ts) bs f =
      spine_kind_unplaced s ts bs (where_true (takes f (kind_of s bs (unplaced_term t))) (gives f)) ∙ ap (λ k. spine_kind s bs (where_true (takes f k) (gives f)) ts) (kind_unplaced s t bs)

-- limits of a side

pub counted_unplaced : (ts : RTms) → count_of (unplaced_terms ts) ≡ count_of ts
counted_unplaced none = refl
counted_unplaced (more t ts) = ap (λ n. n + 1) (counted_unplaced ts)

pub arguments_unplaced : (t : RTm) → arguments_of (unplaced_term t) ≡ arguments_of t
arguments_unplaced (named n at) = refl
arguments_unplaced (numbered k at) = refl
arguments_unplaced (free_variable k a at) = refl
arguments_unplaced (raw_meta n ts at) = refl
arguments_unplaced (raw_lam x a t at) = refl
arguments_unplaced (spine h ts at) = ap₂ (λ m n. m + n) (arguments_unplaced h) (counted_unplaced ts)

mutual
  width_of_unplaced : (t : RTm) → Alike (width_of_term (unplaced_term t)) (width_of_term t)
  width_of_unplaced (named n at) = alike []
  width_of_unplaced (numbered k at) = alike []
  width_of_unplaced (free_variable k a at) = width_unplaced a
  width_of_unplaced (raw_meta n ts at) = widths_of_unplaced ts
  width_of_unplaced (raw_lam x a t at) = alike_parts (width_unplaced a) (width_of_unplaced t)
  width_of_unplaced (spine h ts at) =
      alike_parts (width_of_unplaced h) (subst (λ k. Alike (width_of_arguments k (unplaced_terms ts)) (width_of_arguments (arguments_of h) ts)) (sym (arguments_unplaced h)) (arguments_of_unplaced ts (arguments_of h)))

  widths_of_unplaced : (ts : RTms) → Alike (widths_of_terms (unplaced_terms ts)) (widths_of_terms ts)
  widths_of_unplaced none = alike []
  widths_of_unplaced (more t ts) = alike_parts (width_of_unplaced t) (widths_of_unplaced ts)

  arguments_of_unplaced : (ts : RTms) (k : ℕ) → Alike (width_of_arguments k (unplaced_terms ts)) (width_of_arguments k ts)
  arguments_of_unplaced none k = alike []
  arguments_of_unplaced (more t ts) k = alike_next refl (alike_parts (width_of_unplaced t) (arguments_of_unplaced ts (k + 1)))

mutual
  height_unplaced : (t : RTm) → raw_height (unplaced_term t) ≡ raw_height t
  height_unplaced (named n at) = refl
  height_unplaced (numbered k at) = refl
  height_unplaced (free_variable k a at) = refl
  height_unplaced (raw_meta n none at) = refl
  height_unplaced (raw_meta n (more t ts) at) = ap₂ (λ a b. 1 + max a b) (height_unplaced t) (heights_unplaced ts)
  height_unplaced (raw_lam x a t at) = ap (λ k. 1 + k) (height_unplaced t)
  height_unplaced (spine h ts at) = ap₂ (λ a b. 1 + max a b) (height_unplaced h) (heights_unplaced ts)

  heights_unplaced : (ts : RTms) → raw_heights (unplaced_terms ts) ≡ raw_heights ts
  heights_unplaced none = refl
  heights_unplaced (more t ts) = ap₂ max (height_unplaced t) (heights_unplaced ts)

mutual
  size_unplaced : (t : RTm) → raw_size (unplaced_term t) ≡ raw_size t
  size_unplaced (named n at) = refl
  size_unplaced (numbered k at) = refl
  size_unplaced (free_variable k a at) = refl
  size_unplaced (raw_meta n ts at) = ap (λ k. 1 + k) (sizes_unplaced ts)
  size_unplaced (raw_lam x a t at) = ap (λ k. 1 + k) (size_unplaced t)
  size_unplaced (spine h ts at) = ap₂ (λ a b. a + b) (size_unplaced h) (spine_size_unplaced ts)

  sizes_unplaced : (ts : RTms) → raw_sizes (unplaced_terms ts) ≡ raw_sizes ts
  sizes_unplaced none = refl
  sizes_unplaced (more t ts) = ap₂ (λ a b. a + b) (size_unplaced t) (sizes_unplaced ts)

  spine_size_unplaced : (ts : RTms) → raw_spine_size (unplaced_terms ts) ≡ raw_spine_size ts
  spine_size_unplaced none = refl
  spine_size_unplaced (more t ts) = ap₂ (λ a b. 1 + a + b) (size_unplaced t) (spine_size_unplaced ts)

pub side_unplaced : (t : RTm) → Alike (side_tests (unplaced_term t)) (side_tests t)
side_unplaced t =
    alike_parts (width_of_unplaced t) (alike_next (ap (nat_lt 200) (height_unplaced t)) (alike_next (ap (nat_lt 65536) (size_unplaced t)) (alike [])))

-- names and types

mutual
  pub naming_unplaced : (s : Scope) (t : RTm) (bs : List TypedBinder) → Alike (naming_tests s bs (unplaced_term t)) (naming_tests s bs t)
  naming_unplaced s (named n at) bs = alike_next refl (alike_next refl (alike []))
  naming_unplaced s (numbered k at) bs = alike_next refl (alike [])
  naming_unplaced s (free_variable k a at) bs = sorts_unplaced s.sorts a
  naming_unplaced s (raw_meta n ts at) bs =
      alike_parts (namings_unplaced s ts bs) (alike_next refl (alike_next (ap (λ k. not (arity_of (declaration s n) == k)) (counted_unplaced ts)) (wanted_unplaced s ts bs (args_of (declaration s n)))))
  naming_unplaced s (raw_lam x a t at) bs =
      alike_parts (sorts_unplaced s.sorts a)
      (subst (λ o. Alike (naming_tests s (binder x o ∷ bs) (unplaced_term t)) (naming_tests s (binder x (type_meant s.sorts a) ∷ bs) t)) (sym (type_unplaced s.sorts a)) (naming_unplaced s t (binder x (type_meant s.sorts a) ∷ bs)))
  naming_unplaced s (spine h ts at) bs =
      alike_parts (naming_unplaced s h bs)
      (subst (λ f. Alike (applying_tests s bs f (unplaced_terms ts)) (applying_tests s bs (kind_of s bs h) ts)) (sym (kind_unplaced s h bs)) (applying_unplaced s ts bs (kind_of s bs h)))

  namings_unplaced : (s : Scope) (ts : RTms) (bs : List TypedBinder) → Alike (namings_tests s bs (unplaced_terms ts)) (namings_tests s bs ts)
  namings_unplaced s none bs = alike []
  namings_unplaced s (more t ts) bs = alike_parts (naming_unplaced s t bs) (namings_unplaced s ts bs)

  applying_unplaced : (s : Scope) (ts : RTms) (bs : List TypedBinder) (f : Option Ty) → Alike (applying_tests s bs f (unplaced_terms ts)) (applying_tests s bs f ts)
  applying_unplaced s none bs f = alike []
  applying_unplaced s (more t ts) bs f =
      alike_parts (naming_unplaced s t bs) (alike_next (ap (λ k. not (takes f k)) (kind_unplaced s t bs)) (applying_unplaced s ts bs (gives f)))

  wanted_unplaced : (s : Scope) (ts : RTms) (bs : List TypedBinder) (wanted : List Ty) → Alike (wanted_tests s bs (unplaced_terms ts) wanted) (wanted_tests s bs ts wanted)
  wanted_unplaced s none bs wanted = alike []
  wanted_unplaced s (more t ts) bs [] = alike []
  wanted_unplaced s (more t ts) bs (a ∷ wanted) = alike_next (rw (kind_unplaced s t bs) refl) (wanted_unplaced s ts bs wanted)

-- free variables, heads and patterns

mutual
  pub open_unplaced : (t : RTm) → Alike (open_tests (unplaced_term t)) (open_tests t)
  open_unplaced (named n at) = alike []
  open_unplaced (numbered k at) = alike []
  open_unplaced (free_variable k a at) = alike_next refl (alike [])
  open_unplaced (raw_meta n ts at) = opens_unplaced ts
  open_unplaced (raw_lam x a t at) = open_unplaced t
  open_unplaced (spine h ts at) = alike_parts (open_unplaced h) (opens_unplaced ts)

  opens_unplaced : (ts : RTms) → Alike (opens_tests (unplaced_terms ts)) (opens_tests ts)
  opens_unplaced none = alike []
  opens_unplaced (more t ts) = alike_parts (open_unplaced t) (opens_unplaced ts)

pub head_unplaced : (s : Scope) (t : RTm) → head_symbol s (unplaced_term t) ≡ head_symbol s t
head_unplaced s (named n at) = refl
head_unplaced s (numbered k at) = refl
head_unplaced s (free_variable k a at) = refl
head_unplaced s (raw_meta n ts at) = refl
head_unplaced s (raw_lam x a t at) = refl
head_unplaced s (spine h ts at) = head_unplaced s h

bound_unplaced : (bs : List Binder) (t : RTm) → bound_number bs (unplaced_term t) ≡ bound_number bs t
bound_unplaced bs (named n at) = refl
bound_unplaced bs (numbered k at) = refl
bound_unplaced bs (free_variable k a at) = refl
bound_unplaced bs (raw_meta n ts at) = refl
bound_unplaced bs (raw_lam x a t at) = refl
bound_unplaced bs (spine h ts at) = refl

distinct_unplaced : (bs : List Binder) (ts : RTms) (seen : List ℕ) → are_distinct bs seen (unplaced_terms ts) ≡ are_distinct bs seen ts
distinct_unplaced bs none seen = refl
distinct_unplaced bs (more t ts) seen =
    ap (λ o. is_new o seen && are_distinct bs (unwrap_or o 0 ∷ seen) (unplaced_terms ts)) (bound_unplaced bs t)
    ∙ ap (λ b. is_new (bound_number bs t) seen && b) (distinct_unplaced bs ts (unwrap_or (bound_number bs t) 0 ∷ seen))

front_unplaced : (s : Scope) (bs : List Binder) (t : RTm) → is_pattern_head s bs (unplaced_term t) ≡ is_pattern_head s bs t
front_unplaced s bs (named n at) = refl
front_unplaced s bs (numbered k at) = refl
front_unplaced s bs (free_variable k a at) = refl
front_unplaced s bs (raw_meta n ts at) = refl
front_unplaced s bs (raw_lam x a t at) = refl
front_unplaced s bs (spine h ts at) = refl

mutual
  pub pattern_unplaced : (s : Scope) (t : RTm) (bs : List Binder) → Alike (pattern_tests s bs (unplaced_term t)) (pattern_tests s bs t)
  pattern_unplaced s (named n at) bs = alike []
  pattern_unplaced s (numbered k at) bs = alike []
  pattern_unplaced s (free_variable k a at) bs = alike_next refl (alike [])
  pattern_unplaced s (raw_meta n ts at) bs = alike_next (ap not (distinct_unplaced bs ts [])) (alike [])
  pattern_unplaced s (raw_lam x a t at) bs = pattern_unplaced s t (x ∷ bs)
  pattern_unplaced s (spine h ts at) bs = alike_next (ap not (front_unplaced s bs h)) (patterns_unplaced s ts bs)

  patterns_unplaced : (s : Scope) (ts : RTms) (bs : List Binder) → Alike (patterns_tests s bs (unplaced_terms ts)) (patterns_tests s bs ts)
  patterns_unplaced s none bs = alike []
  patterns_unplaced s (more t ts) bs = alike_parts (pattern_unplaced s t bs) (patterns_unplaced s ts bs)

-- which meta-variables occur

mutual
  pub occurs_unplaced : (s : Scope) (name : List ℕ) (t : RTm) (bs : List Binder) → occurs s bs name (unplaced_term t) ≡ occurs s bs name t
  occurs_unplaced s name (named n at) bs = refl
  occurs_unplaced s name (numbered k at) bs = refl
  occurs_unplaced s name (free_variable k a at) bs = refl
  occurs_unplaced s name (raw_meta n ts at) bs = ap (λ b. is_declared (name ∷ []) n || b) (any_occurs_unplaced s name ts bs)
  occurs_unplaced s name (raw_lam x a t at) bs = occurs_unplaced s name t (x ∷ bs)
  occurs_unplaced s name (spine h ts at) bs = ap₂ (λ a b. a || b) (occurs_unplaced s name h bs) (any_occurs_unplaced s name ts bs)

  any_occurs_unplaced : (s : Scope) (name : List ℕ) (ts : RTms) (bs : List Binder) → any_occurs s bs name (unplaced_terms ts) ≡ any_occurs s bs name ts
  any_occurs_unplaced s name none bs = refl
  any_occurs_unplaced s name (more t ts) bs = ap₂ (λ a b. a || b) (occurs_unplaced s name t bs) (any_occurs_unplaced s name ts bs)

mutual
  pub known_unplaced : (s : Scope) (left t : RTm) (bs : List Binder) → Alike (new_meta_tests s (unplaced_term left) bs (unplaced_term t)) (new_meta_tests s left bs t)
  known_unplaced s left (named n at) bs = alike_next (ap (λ b. is_plain_meta s bs n && not b) (occurs_unplaced s n left [])) (alike [])
  known_unplaced s left (numbered k at) bs = alike []
  known_unplaced s left (free_variable k a at) bs = alike []
  known_unplaced s left (raw_meta n ts at) bs = alike_next (ap not (occurs_unplaced s n left [])) (all_known_unplaced s left ts bs)
  known_unplaced s left (raw_lam x a t at) bs = known_unplaced s left t (x ∷ bs)
  known_unplaced s left (spine h ts at) bs = alike_parts (known_unplaced s left h bs) (all_known_unplaced s left ts bs)

  all_known_unplaced : (s : Scope) (left : RTm) (ts : RTms) (bs : List Binder) → Alike (new_metas_tests s (unplaced_term left) bs (unplaced_terms ts)) (new_metas_tests s left bs ts)
  all_known_unplaced s left none bs = alike []
  all_known_unplaced s left (more t ts) bs = alike_parts (known_unplaced s left t bs) (all_known_unplaced s left ts bs)
