-- The form of a left side, by the tree that it stands for.
use Rattle.std.proofs.Common.{◌≡◌, ℕ, ◌+◌, ◌<◌, ◌≤◌, List, [], ◌∷◌, ◌++◌, Option, Some, None, Bool, true, false, not, reverse, length, drop, get_or, Box, Global, Result, Ok, Err, IsErrAnd, refl, ap, ap₂, sym, ◌∙◌, append_assoc, append-nil}
use Rattle.std.specs.Prelude.{◌==◌, ◌&&◌, ◌||◌, is_some, unwrap_or}
use Rattle.std.specs.List.{list_all}
use Rattle.std.proofs.lemmas.List.{reverse-append, drop_all}
use Rattle.wh_types.specs.declared.simple_type.SimpleType.{SimpleType}
use Rattle.wh_types.specs.declared.want.Or.{Or}
use Rattle.wh_types.specs.Ty.{Ty}
use Rattle.wh_terms.specs.Tree.{Tm, bound, meta, lam, app, Tms, more as more_tms}
use Rattle.wh_terms.specs.Erase.{tm, tms}
use Rattle.wh_terms.specs.declared.term.Term.{Term, Lam, App}
use Rattle.wh_terms.specs.declared.term.Term.TheVariants.{Bound, Free, Fun, Meta', Lam', App'}
use Rattle.wh_text.specs.RawTree.{RTy, Binder, named_binder, numbered_binder, RTm, named, numbered, free_variable, meta as raw_meta, lam as raw_lam, spine, RTms, none, more}
use Rattle.wh_system_parts.specs.declared.fault.SystemFault.{SystemFault}
use Rattle.wh_system_parts.specs.declared.fault.SystemFault.TheVariants.{NotPattern}
use Rattle.wh_system_parts.specs.Faults.{first_of, first_fault}
use Rattle.wh_system_parts.specs.Naming.{Scope, number_of, is_declared, binder_number, meant, all_meant}
use Rattle.wh_system_parts.specs.RuleTests.{are_distinct, bound_number, is_new, is_pattern_head, pattern_tests, patterns_tests}
use Rattle.wh_system_parts.specs.Tests.{test}
use Rattle.wh_system_parts.proofs.FaultLemmas.{fault_after}
use Rattle.wh_system_parts.proofs.OptionParts.{some_same, none_some, both_parts, map_part}
use Rattle.wh_system_resolve.specs.Form.{bound_in, is_front, arguments_in, are_distinct_bound, have_distinct, is_name, are_names, TellsForm}
use Rattle.wh_system_resolve.proofs.AnswerLemmas.{fails_along, fails_first, matched_err, reported_fails, reports_along}
use Rattle.wh_system_resolve.proofs.MeantParts.{name_by, tms_next, body_meant, put_last, last_meant, no_lam_meant, no_app_meant}

-- the head of a pattern

named-front : (s : Scope) (bs : List Binder) (n : List ℕ) (t : Tm) (x y z : Option ℕ) → binder_number bs (named_binder n) ≡ x → number_of s.metas n ≡ y → name_by x y z ≡ Some t
    → (is_some (binder_number bs (named_binder n)) || not (is_declared s.metas n)) ≡ is_front t
named-front s bs n t (Some i) y z e f m = ap (λ o. is_some o || not (is_declared s.metas n)) e ∙ ap is_front (some_same m)
named-front s bs n t None (Some y) z e f m = ap₂ (λ o q. is_some o || not (is_some q)) e f ∙ ap is_front (some_same m)
named-front s bs n t None None (Some g) e f m = ap₂ (λ o q. is_some o || not (is_some q)) e f ∙ ap is_front (some_same m)
named-front s bs n t None None None e f m = absurd (none_some m)

pattern_head_meant : (s : Scope) (bs : List Binder) (h : RTm) (t : Tm) → meant s bs h ≡ Some t → is_pattern_head s bs h ≡ (is_name h && is_front t)
pattern_head_meant s bs (named n at) t m = named-front s bs n t (binder_number bs (named_binder n)) (number_of s.metas n) (number_of s.funs n) refl refl m
pattern_head_meant s bs (numbered k at) t m = ap is_front (map_part bound (binder_number bs (numbered_binder k)) t m).2
pattern_head_meant s bs (free_variable k a at) t m = refl
pattern_head_meant s bs (raw_meta n ts at) t m = refl
pattern_head_meant s bs (raw_lam x a r at) t m = refl
pattern_head_meant s bs (spine h ts at) t m = refl

-- distinct bound variables

named-number : (bs : List Binder) (n : List ℕ) (t : Tm) (x y z : Option ℕ) → binder_number bs (named_binder n) ≡ x → name_by x y z ≡ Some t → binder_number bs (named_binder n) ≡ bound_in t
named-number bs n t (Some i) y z e m = e ∙ ap bound_in (some_same m)
named-number bs n t None (Some y) z e m = e ∙ ap bound_in (some_same m)
named-number bs n t None None (Some g) e m = e ∙ ap bound_in (some_same m)
named-number bs n t None None None e m = absurd (none_some m)

bound_number_meant : (s : Scope) (bs : List Binder) (r : RTm) (t : Tm) → meant s bs r ≡ Some t → is_name r ≡ true → bound_number bs r ≡ bound_in t
bound_number_meant s bs (named n at) t m e = named-number bs n t (binder_number bs (named_binder n)) (number_of s.metas n) (number_of s.funs n) refl m
bound_number_meant s bs (numbered k at) t m e =
    let part = map_part bound (binder_number bs (numbered_binder k)) t m in
    part.1 ∙ ap bound_in part.2
bound_number_meant s bs (free_variable k a at) t m e = absurd (cc)
bound_number_meant s bs (raw_meta n ts at) t m e = absurd (cc)
bound_number_meant s bs (raw_lam x a r at) t m e = absurd (cc)
bound_number_meant s bs (spine h ts at) t m e = absurd (cc)

bound_number_unnamed : (bs : List Binder) (r : RTm) → is_name r ≡ false → bound_number bs r ≡ None
bound_number_unnamed bs (named n at) e = absurd (cc)
bound_number_unnamed bs (numbered k at) e = absurd (cc)
bound_number_unnamed bs (free_variable k a at) e = refl
bound_number_unnamed bs (raw_meta n ts at) e = refl
bound_number_unnamed bs (raw_lam x a r at) e = refl
bound_number_unnamed bs (spine h ts at) e = refl

and-swap : (a b c : Bool) → (a && (b && c)) ≡ (b && (a && c))
and-swap true b c = refl
and-swap false true c = refl
and-swap false false c = refl

distinct-next : (s : Scope) (bs : List Binder) (seen : List ℕ) (r : RTm) (rs : RTms) (t : Tm) (ts : Tms) (b : Bool) → is_name r ≡ b → meant s bs r ≡ Some t
    → ((later : List ℕ) → are_distinct bs later rs ≡ (are_names rs && are_distinct_bound later ts))
    → are_distinct bs seen (more r rs) ≡ (are_names (more r rs) && are_distinct_bound seen (more_tms t ts))
distinct-next s bs seen r rs t ts true e m rest =
    let later = unwrap_or (bound_in t) 0 ∷ seen in
    ap (λ o. is_new o seen && are_distinct bs (unwrap_or o 0 ∷ seen) rs) (bound_number_meant s bs r t m e) ∙ ap (λ b. is_new (bound_in t) seen && b) (rest later)
    ∙ and-swap (is_new (bound_in t) seen) (are_names rs) (are_distinct_bound later ts)
    ∙ sym (ap (λ b. (b && are_names rs) && are_distinct_bound seen (more_tms t ts)) e)
distinct-next s bs seen r rs t ts false e m rest =
    ap (λ o. is_new o seen && are_distinct bs (unwrap_or o 0 ∷ seen) rs) (bound_number_unnamed bs r e)
    ∙ sym (ap (λ b. (b && are_names rs) && are_distinct_bound seen (more_tms t ts)) e)

are_distinct_meant : (s : Scope) (bs : List Binder) (seen : List ℕ) (rs : RTms) (ts : Tms) → all_meant s bs rs ≡ Some ts → are_distinct bs seen rs ≡ (are_names rs && are_distinct_bound seen ts)
are_distinct_meant s bs seen none ts m = ap (are_distinct_bound seen) (some_same m)
are_distinct_meant s bs seen (more r rs) ts m =
    let parts = both_parts more_tms (meant s bs r) (all_meant s bs rs) ts m in
    distinct-next s bs seen r rs parts.0 parts.1 (is_name r) refl parts.2 (λ later. are_distinct_meant s bs later rs parts.1 parts.3)
    ∙ ap (λ us. are_names (more r rs) && are_distinct_bound seen us) parts.4

-- a meta-variable: b tells whether it stands on distinct bound variables
pub meta_form : (t : Tm) (n : List ℕ) (ts : RTms) (at : ℕ) (b : Bool) → (are_names ts && have_distinct (arguments_in t)) ≡ b → (s : Scope) (bs : List Binder) → meant s bs (raw_meta n ts at) ≡ Some t
    → first_fault (pattern_tests s bs (raw_meta n ts at)) ≡ first_of (not b) (NotPattern at) None
meta_form t n ts at b is s bs m =
    let parts = both_parts meta (number_of s.metas n) (all_meant s bs ts) t m in
    ap (λ d. first_of (not d) (NotPattern at) None) (are_distinct_meant s bs [] ts parts.1 parts.3 ∙ ap (λ u. are_names ts && have_distinct (arguments_in u)) parts.4 ∙ is)

-- an abstraction
pub lam_form : (t body : Tm) (k : Ty) (x : Binder) (a : RTy) (r : RTm) (at : ℕ) (result : Result (Unit {0}) (Or SystemFault)) → t ≡ lam k body → TellsForm body r result
    → TellsForm t (raw_lam x a r at) result
lam_form t body k x a r at result is told s bs m = told s (x ∷ bs) (body_meant s bs x a r at k body (m ∙ ap Some is))

pub no_lam_form : (t : Term) (x : Binder) (a : RTy) (r : RTm) (at : ℕ) (result : Result (Unit {0}) (Or SystemFault)) → ((k : SimpleType) (b : Box Term Global) → t ≡ Lam k b → ⊥)
    → TellsForm (tm t) (raw_lam x a r at) result
no_lam_form t x a r at result other s bs m = absurd (no_lam_meant s bs t other x a r at m)

-- a head without arguments: b tells whether a pattern may have it
pub head_form : (t : Tm) (h : RTm) (at : ℕ) (b : Bool) → (is_name h && is_front t) ≡ b → (s : Scope) (bs : List Binder) → meant s bs h ≡ Some t
    → first_fault (pattern_tests s bs (spine h none at)) ≡ first_of (not b) (NotPattern at) None
head_form t h at b is s bs m = ap (λ d. first_of (not d) (NotPattern at) None) (pattern_head_meant s bs h t m ∙ is)

-- one argument more

patterns-last : (s : Scope) (bs : List Binder) (ts : RTms) (t : RTm) → patterns_tests s bs (put_last ts t) ≡ patterns_tests s bs ts ++ pattern_tests s bs t
patterns-last s bs none t = append-nil (pattern_tests s bs t)
patterns-last s bs (more u ts) t =
    ap (λ us. pattern_tests s bs u ++ us) (patterns-last s bs ts t) ∙ sym (append_assoc (pattern_tests s bs u) (patterns_tests s bs ts) (pattern_tests s bs t))

form-last : (s : Scope) (bs : List Binder) (h : RTm) (ts : RTms) (t : RTm) (at : ℕ)
    → first_fault (pattern_tests s bs (spine h (put_last ts t) at)) ≡ first_fault (pattern_tests s bs (spine h ts at) ++ pattern_tests s bs t)
form-last s bs h ts t at = ap (λ us. first_fault (test (not (is_pattern_head s bs h)) (NotPattern at) ∷ us)) (patterns-last s bs ts t)

pub last_form : (f a : Tm) (h : RTm) (ts : RTms) (t : RTm) (at : ℕ) (result : Result (Unit {0}) (Or SystemFault)) → TellsForm f (spine h ts at) (Ok tt) → TellsForm a t result
    → TellsForm (app f a) (spine h (put_last ts t) at) result
last_form f a h ts t at result before told s bs m =
    let parts = last_meant s bs h ts t at f a m in
    reports_along result (pattern_tests s bs t) (pattern_tests s bs (spine h (put_last ts t) at))
    (form-last s bs h ts t at ∙ fault_after (pattern_tests s bs (spine h ts at)) (pattern_tests s bs t) (before s bs parts.0)) (told s bs parts.1)

pub last_form_fails : (f a : Tm) (h : RTm) (ts : RTms) (t : RTm) (at : ℕ) (e : Or SystemFault) (result : Result (Unit {0}) (Or SystemFault)) → IsErrAnd result (λ x. x ≡ e)
    → TellsForm f (spine h ts at) (Err e) → TellsForm (app f a) (spine h (put_last ts t) at) result
last_form_fails f a h ts t at e result is told s bs m =
    let parts = last_meant s bs h ts t at f a m in
    let front = pattern_tests s bs (spine h ts at) in
    let whole = pattern_tests s bs (spine h (put_last ts t) at) in
    matched_err (λ _. first_fault whole ≡ None) whole result e is
    (fails_along e (first_fault (front ++ pattern_tests s bs t)) (first_fault whole) (form-last s bs h ts t at)
    (fails_first e front (pattern_tests s bs t) (reported_fails front e (told s bs parts.0))))

pub no_app_form : (t : Term) (h : RTm) (ts : RTms) (r : RTm) (at : ℕ) (result : Result (Unit {0}) (Or SystemFault)) → ((b c : Box Term Global) → t ≡ App b c → ⊥)
    → TellsForm (tm t) (spine h (put_last ts r) at) result
no_app_form t h ts r at result other s bs m = absurd (no_app_meant s bs t other h ts r at m)

-- the walk over the arguments of a meta-variable

is_new-all : (i : ℕ) (seen : List ℕ) → is_new (Some i) seen ≡ list_all (λ j. not (i == j)) seen
is_new-all i [] = refl
is_new-all i (j ∷ seen) = ap (λ b. not (i == j) && b) (is_new-all i seen)

unbound : (t : Term) → ((n : ℕ) → t ≡ Bound n → ⊥) → bound_in (tm t) ≡ None
unbound (Bound n) h = absurd (h n refl)
unbound (Free x k) h = refl
unbound (Fun f) h = refl
unbound (Meta' z shape all) h = refl
unbound (Lam' k p u) h = refl
unbound (App' p u q v) h = refl

pub distinct_next : (xs : List Term) (i : ℕ) (t : Term) (seen after : List ℕ) (n : ℕ) (all : Bool) → i < length xs → t ≡ get_or xs i t → t ≡ Bound n
    → list_all (λ j. not (n == j)) (reverse seen) ≡ true → after ≡ seen ++ n ∷ [] → all ≡ are_distinct_bound (reverse seen) (tms (drop i xs))
    → all ≡ are_distinct_bound (reverse after) (tms (drop (i + 1) xs))
distinct_next xs i t seen after n all within e is unseen push so_far =
    so_far ∙ ap (are_distinct_bound (reverse seen)) (tms_next xs i t within e)
    ∙ ap (λ u. is_new (bound_in (tm u)) (reverse seen) && are_distinct_bound (unwrap_or (bound_in (tm u)) 0 ∷ reverse seen) (tms (drop (i + 1) xs))) is
    ∙ ap (λ b. b && are_distinct_bound (n ∷ reverse seen) (tms (drop (i + 1) xs))) (is_new-all n (reverse seen) ∙ unseen)
    ∙ ap (λ ns. are_distinct_bound ns (tms (drop (i + 1) xs))) (sym (ap reverse push ∙ reverse-append seen (n ∷ [])))

pub distinct_seen : (xs : List Term) (i : ℕ) (t : Term) (seen : List ℕ) (n : ℕ) (all : Bool) → i < length xs → t ≡ get_or xs i t → t ≡ Bound n
    → list_all (λ j. not (n == j)) (reverse seen) ≡ false → all ≡ are_distinct_bound (reverse seen) (tms (drop i xs)) → all ≡ false
distinct_seen xs i t seen n all within e is met so_far =
    so_far ∙ ap (are_distinct_bound (reverse seen)) (tms_next xs i t within e)
    ∙ ap (λ u. is_new (bound_in (tm u)) (reverse seen) && are_distinct_bound (unwrap_or (bound_in (tm u)) 0 ∷ reverse seen) (tms (drop (i + 1) xs))) is
    ∙ ap (λ b. b && are_distinct_bound (n ∷ reverse seen) (tms (drop (i + 1) xs))) (is_new-all n (reverse seen) ∙ met)

pub distinct_other : (xs : List Term) (i : ℕ) (t : Term) (seen : List ℕ) (all : Bool) → i < length xs → t ≡ get_or xs i t → ((n : ℕ) → t ≡ Bound n → ⊥)
    → all ≡ are_distinct_bound (reverse seen) (tms (drop i xs)) → all ≡ false
distinct_other xs i t seen all within e other so_far =
    so_far ∙ ap (are_distinct_bound (reverse seen)) (tms_next xs i t within e)
    ∙ ap (λ o. is_new o (reverse seen) && are_distinct_bound (unwrap_or o 0 ∷ reverse seen) (tms (drop (i + 1) xs))) (unbound t other)

pub distinct_end : (xs : List Term) (i : ℕ) (seen : List ℕ) (all : Bool) → length xs ≤ i → all ≡ are_distinct_bound (reverse seen) (tms (drop i xs)) → all ≡ true
distinct_end xs i seen all past so_far = so_far ∙ ap (λ ys. are_distinct_bound (reverse seen) (tms ys)) (drop_all i xs past)
