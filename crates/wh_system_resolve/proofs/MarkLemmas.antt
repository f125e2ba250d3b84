-- Flags of the meta-variables that occur in a left side, and the meta-variables of a right side that are among them.
use Rattle.std.proofs.Common.{replicate, take, drop, ◌≡◌, ℕ, ◌+◌, ◌<◌, ◌≤◌, arith, List, [], ◌∷◌, ◌++◌, length, get_or, cond, Option, Some, None, Bool, true, false, not, Box, Global, Result, Ok, Err, IsErrAnd, refl, ap, ap₂, sym, ◌∙◌, subst, eqb-true, append_assoc, append-nil}
use Rattle.std.specs.Prelude.{◌==◌, ◌&&◌, ◌||◌, is_some, nat_lt, slice_set}
use Rattle.std.specs.Str.{bytes_eq}
use Rattle.std.proofs.lemmas.Bool.{eqb-false}
use Rattle.std.proofs.lemmas.List.{get_or-set_same, get_or-set_other, get_or-replicate, drop_all}
use Rattle.std.proofs.Math.Seq.{take-append_seam}
use Rattle.std.proofs.lemmas.List.Quantifiers.{position-Some}
use Rattle.std.proofs.lemmas.Slice.Eq.{bytes_eq-Decides}
use Rattle.wh_types.specs.Ty.{Ty}
use Rattle.wh_types.specs.declared.simple_type.SimpleType.{SimpleType}
use Rattle.wh_terms.specs.Tree.{Tm, bound, free, meta, lam, app, Tms, none as no_tms, more as more_tms}
use Rattle.wh_terms.specs.Erase.{tm, tms}
use Rattle.wh_terms.specs.declared.term.Term.{Term, Lam, App}
use Rattle.wh_text.specs.RawTree.{RTy, Binder, named_binder, numbered_binder, RTm, named, numbered, free_variable, meta as raw_meta, lam as raw_lam, spine, RTms, none, more}
use Rattle.wh_system_parts.specs.declared.fault.SystemFault.{SystemFault}
use Rattle.wh_system_parts.specs.declared.fault.SystemFault.TheVariants.{NewMeta}
use Rattle.wh_system_parts.specs.Faults.{first_fault, first_of, IsFirstFault}
use Rattle.wh_system_parts.specs.Naming.{Scope, number_of, is_declared, binder_number, type_meant, both, meant, all_meant, applied_meant}
use Rattle.wh_system_parts.specs.Tests.{test}
use Rattle.wh_system_parts.specs.RuleTests.{is_plain_meta, occurs, any_occurs, new_meta_tests, new_metas_tests}
use Rattle.wh_system_parts.proofs.FaultLemmas.{fault_after, fault_in_first}
use Rattle.wh_system_parts.proofs.PassLemmas.{fault_on}
use Rattle.wh_system_parts.proofs.OptionParts.{some_same, none_some, both_parts, map_part}
use Rattle.wh_system_resolve.specs.Form.{arguments_in}
use Rattle.wh_system_resolve.specs.Marks.{occurs_in, occurs_in_any, Marks, is_unmarked, AreMarked, TellsNew, TellsNewEach}
use Rattle.wh_system_resolve.proofs.AnswerLemmas.{first_along}
use Rattle.wh_system_resolve.proofs.MeantParts.{name_by, tms_next, body_meant, put_last, last_meant, no_lam_meant, no_app_meant}
use Rattle.wh_system_resolve.proofs.PlainNames.{number_below}

-- truth values

or-none : (a : Bool) → a ≡ (a || false)
or-none true = refl
or-none false = refl

or-held : (a : Bool) → true ≡ (a || true)
or-held true = refl
or-held false = refl

or-or : (a b c : Bool) → ((a || b) || c) ≡ (a || (b || c))
or-or true b c = refl
or-or false b c = refl

-- one name

alone-is : (b : Bool) → is_some (cond (nat_lt (cond (not b) (1 + 0) 0) 1) (Some (cond (not b) (1 + 0) 0)) None) ≡ b
alone-is true = refl
alone-is false = refl

alone : (n m : List ℕ) → is_declared (n ∷ []) m ≡ bytes_eq n m
alone n m = alone-is (bytes_eq n m)

other : (n m : List ℕ) → (n ≡ m → ⊥) → is_declared (n ∷ []) m ≡ false
other n m differ = alone n m ∙ go (bytes_eq n m) refl
  where
    go : (b : Bool) → bytes_eq n m ≡ b → b ≡ false
    go true e = absurd (differ ((bytes_eq-Decides n m).0 e))
    go false e = refl

same : (n m : List ℕ) → n ≡ m → is_declared (n ∷ []) m ≡ true
same n m e = alone n m ∙ (bytes_eq-Decides n m).1 e

-- the name that has a number
named_at : (names : List (List ℕ)) (n : List ℕ) (z : ℕ) → number_of names n ≡ Some z → get_or names z [] ≡ n
named_at names n z e = (bytes_eq-Decides (get_or names z []) n).0 (position-Some (λ x. bytes_eq x n) names z [] e).1

one_name : (names : List (List ℕ)) (n m : List ℕ) (z : ℕ) → number_of names n ≡ Some z → number_of names m ≡ Some z → n ≡ m
one_name names n m z e f = sym (named_at names n z e) ∙ named_at names m z f

-- names are one where their numbers are
same_number : (names : List (List ℕ)) (n m : List ℕ) (z y : ℕ) → number_of names n ≡ Some z → number_of names m ≡ Some y → is_declared (n ∷ []) m ≡ (y == z)
same_number names n m z y e f = go (y == z) refl
  where
    go : (b : Bool) → (y == z) ≡ b → is_declared (n ∷ []) m ≡ b
    go true is = same n m (one_name names n m z e (f ∙ ap (λ k. Some k) (eqb-true y z is)))
    go false is = other n m (λ one. eqb-false y z is (some_same (sym f ∙ ap (number_of names) (sym one) ∙ e)))

-- what occurs in a raw term occurs in the tree that it stands for

plain-occurs : (s : Scope) (bs : List Binder) (name n : List ℕ) (z : ℕ) (t : Tm) (x y w : Option ℕ) → number_of s.metas name ≡ Some z → binder_number bs (named_binder n) ≡ x
    → number_of s.metas n ≡ y → name_by x y w ≡ Some t → (is_plain_meta s bs n && is_declared (name ∷ []) n) ≡ occurs_in z t
plain-occurs s bs name n z t (Some i) y w known e f m = ap (λ o. (not (is_some o) && is_declared s.metas n) && is_declared (name ∷ []) n) e ∙ ap (occurs_in z) (some_same m)
plain-occurs s bs name n z t None (Some y) w known e f m =
    ap₂ (λ o q. (not (is_some o) && is_some q) && is_declared (name ∷ []) n) e f ∙ same_number s.metas name n z y known f ∙ or-none (y == z) ∙ ap (occurs_in z) (some_same m)
plain-occurs s bs name n z t None None (Some g) known e f m = ap₂ (λ o q. (not (is_some o) && is_some q) && is_declared (name ∷ []) n) e f ∙ ap (occurs_in z) (some_same m)
plain-occurs s bs name n z t None None None known e f m = absurd (none_some m)

mutual
  occurs_meant : (s : Scope) (bs : List Binder) (name : List ℕ) (z : ℕ) (r : RTm) (t : Tm) → number_of s.metas name ≡ Some z → meant s bs r ≡ Some t → occurs s bs name r ≡ occurs_in z t
  occurs_meant s bs name z (named n at) t known m = plain-occurs s bs name n z t (binder_number bs (named_binder n)) (number_of s.metas n) (number_of s.funs n) known refl refl m
  occurs_meant s bs name z (numbered k at) t known m = ap (occurs_in z) (map_part bound (binder_number bs (numbered_binder k)) t m).2
  occurs_meant s bs name z (free_variable k a at) t known m = ap (occurs_in z) (map_part (free k) (type_meant s.sorts a) t m).2
  occurs_meant s bs name z (raw_meta n ts at) t known m =
      let parts = both_parts meta (number_of s.metas n) (all_meant s bs ts) t m in
      ap₂ (λ a b. a || b) (same_number s.metas name n z parts.0 known parts.2) (any-occurs s bs name z ts parts.1 known parts.3) ∙ ap (occurs_in z) parts.4
  occurs_meant s bs name z (raw_lam x a r at) t known m =
      let parts = both_parts lam (type_meant s.sorts a) (meant s (x ∷ bs) r) t m in
      occurs_meant s (x ∷ bs) name z r parts.1 known parts.3 ∙ ap (occurs_in z) parts.4
  occurs_meant s bs name z (spine h ts at) t known m =
      let front = spine-occurs s bs name z ts (meant s bs h) t known m in
      ap (λ b. b || any_occurs s bs name ts) (occurs_meant s bs name z h front.0 known front.1) ∙ front.2

  any-occurs : (s : Scope) (bs : List Binder) (name : List ℕ) (z : ℕ) (ts : RTms) (us : Tms) → number_of s.metas name ≡ Some z → all_meant s bs ts ≡ Some us
      → any_occurs s bs name ts ≡ occurs_in_any z us
  any-occurs s bs name z none us known m = ap (occurs_in_any z) (some_same m)
  any-occurs s bs name z (more r ts) us known m =
      let parts = both_parts more_tms (meant s bs r) (all_meant s bs ts) us m in
      ap₂ (λ a b. a || b) (occurs_meant s bs name z r parts.0 known parts.2) (any-occurs s bs name z ts parts.1 known parts.3) ∙ ap (occurs_in_any z) parts.4

  spine-occurs : (s : Scope) (bs : List Binder) (name : List ℕ) (z : ℕ) (ts : RTms) (o : Option Tm) (t : Tm) → number_of s.metas name ≡ Some z → applied_meant s bs o ts ≡ Some t
      → (u : Tm) × (o ≡ Some u) × ((occurs_in z u || any_occurs s bs name ts) ≡ occurs_in z t)
  spine-occurs s bs name z none o t known m = (t, m, sym (or-none (occurs_in z t)))
  spine-occurs s bs name z (more r ts) o t known m =
      let rest = spine-occurs s bs name z ts (both app o (meant s bs r)) t known m in
      let parts = both_parts app o (meant s bs r) rest.0 rest.1 in (
        parts.0,
        parts.2,
        sym (or-or (occurs_in z parts.0) (occurs s bs name r) (any_occurs s bs name ts))
            ∙ ap (λ b. (occurs_in z parts.0 || b) || any_occurs s bs name ts) (occurs_meant s bs name z r parts.1 known parts.3)
            ∙ ap (λ u. occurs_in z u || any_occurs s bs name ts) parts.4 ∙ rest.2,
      )

-- flags

pub set_mark : (old new : List Bool) (w : ℕ) → w < length old → new ≡ slice_set old w true → Marks old new (λ z. w == z)
set_mark old new w within is z inside = ap (λ l. get_or l z false) is ∙ go (w == z) refl
  where
    go : (b : Bool) → (w == z) ≡ b → get_or (slice_set old w true) z false ≡ (get_or old z false || b)
    go true e =
        ap (λ k. get_or (slice_set old w true) k false) (sym (eqb-true w z e)) ∙ get_or-set_same old w true false within ∙ or-held (get_or old z false)
    go false e = get_or-set_other old w z true false (λ one. eqb-false w z e (sym one)) ∙ or-none (get_or old z false)

pub past_marks : (old : List Bool) (w : ℕ) → length old ≤ w → Marks old old (λ z. w == z)
past_marks old w past z inside = or-none (get_or old z false) ∙ ap (λ b. get_or old z false || b) (sym (go (w == z) refl))
  where
    go : (b : Bool) → (w == z) ≡ b → b ≡ false
    go true e = let one : w ≡ z = eqb-true w z e in absurd (omega arith)
    go false e = refl

pub marks_as : (old new : List Bool) (f g : ℕ → Bool) → ((z : ℕ) → g z ≡ f z) → Marks old new f → Marks old new g
marks_as old new f g as_is m z inside = m z inside ∙ ap (λ b. get_or old z false || b) (sym (as_is z))

pub marks_both : (a b c : List Bool) (f g : ℕ → Bool) → length b ≡ length a → Marks a b f → Marks b c g → Marks a c (λ z. f z || g z)
marks_both a b c f g long m k z inside =
    k z (subst (λ l. z < l) (sym long) inside) ∙ ap (λ x. x || g z) (m z inside) ∙ or-or (get_or a z false) (f z) (g z)

-- terms one after another: what is marked or occurs in those left is what was marked or occurs in all

abbrev pub LeftToMark : List Bool → List Bool → Tms → Tms → Type 0
LeftToMark old now all left = (z : ℕ) → z < length old → (get_or now z false || occurs_in_any z left) ≡ (get_or old z false || occurs_in_any z all)

pub left_marked : (old now new : List Bool) (xs : List Term) (i : ℕ) (t : Term) → i < length xs → t ≡ get_or xs i t → length now ≡ length old
    → LeftToMark old now (tms xs) (tms (drop i xs)) → Marks now new (λ z. occurs_in z (tm t)) → LeftToMark old new (tms xs) (tms (drop (i + 1) xs))
left_marked old now new xs i t within e long so_far m z inside =
    let rest = tms (drop (i + 1) xs) in
    ap (λ b. b || occurs_in_any z rest) (m z (subst (λ l. z < l) (sym long) inside)) ∙ or-or (get_or now z false) (occurs_in z (tm t)) (occurs_in_any z rest)
    ∙ ap (λ us. get_or now z false || occurs_in_any z us) (sym (tms_next xs i t within e)) ∙ so_far z inside

pub all_marked : (old now : List Bool) (xs : List Term) (i : ℕ) → length xs ≤ i → LeftToMark old now (tms xs) (tms (drop i xs)) → Marks old now (λ z. occurs_in_any z (tms xs))
all_marked old now xs i past so_far z inside =
    or-none (get_or now z false) ∙ ap (λ ys. get_or now z false || occurs_in_any z (tms ys)) (sym (drop_all i xs past)) ∙ so_far z inside

-- flags that are marked from clear ones on, and written back
pub fresh_marks : (t : Tm) (clean new : List Bool) (k len : ℕ) → clean ≡ replicate k false → len ≡ k → length clean ≡ k → length new ≡ length clean → Marks clean new (λ z. occurs_in z t)
    → (z : ℕ) → z < k → get_or (take len (new ++ drop (length new) clean)) z false ≡ occurs_in z t
fresh_marks t clean new k len is one whole two m z short =
    let unset : get_or clean z false ≡ false = ap (λ l. get_or l z false) is ∙ get_or-replicate k z false false short in
    let back : take len (new ++ drop (length new) clean) ≡ new =
    ap (λ i. take i (new ++ drop (length new) clean)) (one ∙ sym whole ∙ sym two) ∙ take-append_seam new (drop (length new) clean) in
    ap (λ l. get_or l z false) back ∙ m z (omega arith) ∙ ap (λ b. b || occurs_in z t) unset

-- the flags of what occurs in the tree are those of what occurs in the raw left side
pub are_marked : (s : Scope) (l : RTm) (t : Tm) (flags : List Bool) (k : ℕ) → ((z : ℕ) → z < k → get_or flags z false ≡ occurs_in z t) → meant s [] l ≡ Some t → length s.metas ≤ k
    → AreMarked s l flags
are_marked s l t flags k each m fits n z e =
    let within : z < length s.metas = number_below s.metas n z e in
    each z (omega arith) ∙ sym (occurs_meant s [] n z l t e m)

-- what occurs on the right

plain-new : (s : Scope) (left : RTm) (bs : List Binder) (flags : List Bool) (n : List ℕ) (t : Tm) (x y w : Option ℕ) → AreMarked s left flags → binder_number bs (named_binder n) ≡ x
    → number_of s.metas n ≡ y → name_by x y w ≡ Some t → (is_plain_meta s bs n && not (occurs s [] n left)) ≡ is_unmarked flags t
plain-new s left bs flags n t (Some i) y w marked e f m = ap (λ o. (not (is_some o) && is_declared s.metas n) && not (occurs s [] n left)) e ∙ ap (is_unmarked flags) (some_same m)
plain-new s left bs flags n t None (Some y) w marked e f m =
    ap₂ (λ o q. (not (is_some o) && is_some q) && not (occurs s [] n left)) e f ∙ ap not (sym (marked n y f)) ∙ ap (is_unmarked flags) (some_same m)
plain-new s left bs flags n t None None (Some g) marked e f m =
    ap₂ (λ o q. (not (is_some o) && is_some q) && not (occurs s [] n left)) e f ∙ ap (is_unmarked flags) (some_same m)
plain-new s left bs flags n t None None None marked e f m = absurd (none_some m)

pub named_new : (flags : List Bool) (t : Tm) (n : List ℕ) (at : ℕ) (result : Result (Unit {0}) SystemFault) → IsFirstFault (test (is_unmarked flags t) (NewMeta at) ∷ []) result
    → TellsNew flags t (named n at) result
named_new flags t n at result told s left bs marked m =
    first_along result (test (is_unmarked flags t) (NewMeta at) ∷ []) (new_meta_tests s left bs (named n at))
    (ap (λ b. first_of b (NewMeta at) None) (plain-new s left bs flags n t (binder_number bs (named_binder n)) (number_of s.metas n) (number_of s.funs n) marked refl refl m)) told

-- a meta-variable with arguments: its own test, and those of the arguments
own-new : (s : Scope) (left : RTm) (bs : List Binder) (flags : List Bool) (n : List ℕ) (ts : RTms) (at : ℕ) (t : Tm) → AreMarked s left flags → meant s bs (raw_meta n ts at) ≡ Some t
    → (us : Tms) × (arguments_in t ≡ Some us) × (all_meant s bs ts ≡ Some us) × (not (occurs s [] n left) ≡ is_unmarked flags t)
own-new s left bs flags n ts at t marked m =
    let parts = both_parts meta (number_of s.metas n) (all_meant s bs ts) t m in
    (parts.1, ap arguments_in (sym parts.4), parts.3, ap not (sym (marked n parts.0 parts.2)) ∙ ap (is_unmarked flags) parts.4)

pub meta_new_fails : (flags : List Bool) (t : Tm) (n : List ℕ) (ts : RTms) (at : ℕ) (f : SystemFault) (result : Result (Unit {0}) SystemFault) → IsErrAnd result (λ x. x ≡ f)
    → first_of (is_unmarked flags t) (NewMeta at) None ≡ Some f → TellsNew flags t (raw_meta n ts at) result
meta_new_fails flags t n ts at f result is fails s left bs marked m =
    let own = own-new s left bs flags n ts at t marked m in
    let own_tests = test (not (occurs s [] n left)) (NewMeta at) ∷ [] in
    fault_on (new_meta_tests s left bs (raw_meta n ts at)) result f is
    (fault_in_first own_tests (new_metas_tests s left bs ts) f (ap (λ b. first_of b (NewMeta at) None) own.3 ∙ fails))

pub meta_new : (flags : List Bool) (t : Tm) (n : List ℕ) (ts : RTms) (at : ℕ) (us : Tms) (result : Result (Unit {0}) SystemFault) → first_of (is_unmarked flags t) (NewMeta at) None ≡ None
    → arguments_in t ≡ Some us → TellsNewEach flags us ts result → TellsNew flags t (raw_meta n ts at) result
meta_new flags t n ts at us result passes there told s left bs marked m =
    let own = own-new s left bs flags n ts at t marked m in
    let own_tests = test (not (occurs s [] n left)) (NewMeta at) ∷ [] in
    first_along result (new_metas_tests s left bs ts) (new_meta_tests s left bs (raw_meta n ts at))
    (fault_after own_tests (new_metas_tests s left bs ts) (ap (λ b. first_of b (NewMeta at) None) own.3 ∙ passes))
    (told s left bs marked (own.2 ∙ sym own.1 ∙ there))

pub no_meta_new : (flags : List Bool) (t : Tm) (n : List ℕ) (ts : RTms) (at : ℕ) (result : Result (Unit {0}) SystemFault) → arguments_in t ≡ None → TellsNew flags t (raw_meta n ts at) result
no_meta_new flags t n ts at result lacks s left bs marked m = absurd (none_some (sym lacks ∙ (own-new s left bs flags n ts at t marked m).1))

-- an abstraction
pub lam_new : (flags : List Bool) (t body : Tm) (k : Ty) (x : Binder) (a : RTy) (r : RTm) (at : ℕ) (result : Result (Unit {0}) SystemFault) → t ≡ lam k body → TellsNew flags body r result
    → TellsNew flags t (raw_lam x a r at) result
lam_new flags t body k x a r at result is told s left bs marked m = told s left (x ∷ bs) marked (body_meant s bs x a r at k body (m ∙ ap Some is))

pub no_lam_new : (flags : List Bool) (t : Term) (x : Binder) (a : RTy) (r : RTm) (at : ℕ) (result : Result (Unit {0}) SystemFault)
    → ((k : SimpleType) (b : Box Term Global) → t ≡ Lam k b → ⊥) → TellsNew flags (tm t) (raw_lam x a r at) result
no_lam_new flags t x a r at result lacks s left bs marked m = absurd (no_lam_meant s bs t lacks x a r at m)

-- a head without arguments, and one argument more

pub head_new : (flags : List Bool) (t : Tm) (h : RTm) (result : Result (Unit {0}) SystemFault) → TellsNew flags t h result → TellsNew flags t (spine h none 0) result
head_new flags t h result told s left bs marked m =
    first_along result (new_meta_tests s left bs h) (new_meta_tests s left bs (spine h none 0)) (ap first_fault (append-nil (new_meta_tests s left bs h))) (told s left bs marked m)

news-last : (s : Scope) (left : RTm) (bs : List Binder) (ts : RTms) (t : RTm) → new_metas_tests s left bs (put_last ts t) ≡ new_metas_tests s left bs ts ++ new_meta_tests s left bs t
news-last s left bs none t = append-nil (new_meta_tests s left bs t)
news-last s left bs (more u ts) t =
    ap (λ us. new_meta_tests s left bs u ++ us) (news-last s left bs ts t)
    ∙ sym (append_assoc (new_meta_tests s left bs u) (new_metas_tests s left bs ts) (new_meta_tests s left bs t))

new-last : (s : Scope) (left : RTm) (bs : List Binder) (h : RTm) (ts : RTms) (t : RTm)
    → first_fault (new_meta_tests s left bs (spine h (put_last ts t) 0)) ≡ first_fault (new_meta_tests s left bs (spine h ts 0) ++ new_meta_tests s left bs t)
new-last s left bs h ts t =
    ap first_fault (ap (λ us. new_meta_tests s left bs h ++ us) (news-last s left bs ts t)
    ∙ sym (append_assoc (new_meta_tests s left bs h) (new_metas_tests s left bs ts) (new_meta_tests s left bs t)))

pub last_new : (flags : List Bool) (f a : Tm) (h : RTm) (ts : RTms) (t : RTm) (result : Result (Unit {0}) SystemFault) → TellsNew flags f (spine h ts 0) (Ok tt) → TellsNew flags a t result
    → TellsNew flags (app f a) (spine h (put_last ts t) 0) result
last_new flags f a h ts t result before told s left bs marked m =
    let parts = last_meant s bs h ts t 0 f a m in
    first_along result (new_meta_tests s left bs t) (new_meta_tests s left bs (spine h (put_last ts t) 0))
    (new-last s left bs h ts t ∙ fault_after (new_meta_tests s left bs (spine h ts 0)) (new_meta_tests s left bs t) (before s left bs marked parts.0)) (told s left bs marked parts.1)

pub last_new_fails : (flags : List Bool) (f a : Tm) (h : RTm) (ts : RTms) (t : RTm) (x : SystemFault) (result : Result (Unit {0}) SystemFault) → IsErrAnd result (λ y. y ≡ x)
    → TellsNew flags f (spine h ts 0) (Err x) → TellsNew flags (app f a) (spine h (put_last ts t) 0) result
last_new_fails flags f a h ts t x result is told s left bs marked m =
    let parts = last_meant s bs h ts t 0 f a m in
    fault_on (new_meta_tests s left bs (spine h (put_last ts t) 0)) result x is
    (new-last s left bs h ts t ∙ fault_in_first (new_meta_tests s left bs (spine h ts 0)) (new_meta_tests s left bs t) x (told s left bs marked parts.0))

pub no_app_new : (flags : List Bool) (t : Term) (h : RTm) (ts : RTms) (r : RTm) (result : Result (Unit {0}) SystemFault) → ((b c : Box Term Global) → t ≡ App b c → ⊥)
    → TellsNew flags (tm t) (spine h (put_last ts r) 0) result
no_app_new flags t h ts r result lacks s left bs marked m = absurd (no_app_meant s bs t lacks h ts r 0 m)

-- raw terms one after another

more-same : (s : Scope) (bs : List Binder) (r : RTm) (rs : RTms) (t : Tm) (ts : Tms) → all_meant s bs (more r rs) ≡ Some (more_tms t ts) → (meant s bs r ≡ Some t) × (all_meant s bs rs ≡ Some ts)
more-same s bs r rs t ts m =
    let parts = both_parts more_tms (meant s bs r) (all_meant s bs rs) (more_tms t ts) m in
    (parts.2 ∙ ap Some (front parts.0 t parts.1 ts parts.4), parts.3 ∙ ap Some (further parts.0 t parts.1 ts parts.4))
  where
    front : (t u : Tm) (ts us : Tms) → more_tms t ts ≡ more_tms u us → t ≡ u
    front t u ts us e = cc

    further : (t u : Tm) (ts us : Tms) → more_tms t ts ≡ more_tms u us → ts ≡ us
    further t u ts us e = cc

pub each_new : (flags : List Bool) (t : Tm) (ts : Tms) (r : RTm) (rs : RTms) (result : Result (Unit {0}) SystemFault) → TellsNew flags t r (Ok tt) → TellsNewEach flags ts rs result
    → TellsNewEach flags (more_tms t ts) (more r rs) result
each_new flags t ts r rs result before told s left bs marked m =
    let parts = more-same s bs r rs t ts m in
    first_along result (new_metas_tests s left bs rs) (new_metas_tests s left bs (more r rs))
    (fault_after (new_meta_tests s left bs r) (new_metas_tests s left bs rs) (before s left bs marked parts.0)) (told s left bs marked parts.1)

pub each_new_fails : (flags : List Bool) (t : Tm) (ts : Tms) (r : RTm) (rs : RTms) (x : SystemFault) (result : Result (Unit {0}) SystemFault) → IsErrAnd result (λ y. y ≡ x)
    → TellsNew flags t r (Err x) → TellsNewEach flags (more_tms t ts) (more r rs) result
each_new_fails flags t ts r rs x result is told s left bs marked m =
    fault_on (new_metas_tests s left bs (more r rs)) result x is
    (fault_in_first (new_meta_tests s left bs r) (new_metas_tests s left bs rs) x (told s left bs marked (more-same s bs r rs t ts m).0))

pub none_new : (flags : List Bool) (ts : Tms) → TellsNewEach flags ts none (Ok tt)
none_new flags ts s left bs marked m = refl

pub fewer_new : (flags : List Bool) (r : RTm) (rs : RTms) (result : Result (Unit {0}) SystemFault) → TellsNewEach flags no_tms (more r rs) result
fewer_new flags r rs result s left bs marked m =
    let parts = both_parts more_tms (meant s bs r) (all_meant s bs rs) no_tms m in
    absurd (never parts.0 parts.1 parts.4)
  where
    never : (t : Tm) (ts : Tms) → more_tms t ts ≡ no_tms → ⊥
    never t ts e = cc
