-- The reader of terms reads each spelling, and every front that it goes along can be ended.
use Rattle.std.proofs.Common.{◌≡◌, ℕ, suc, ◌+◌, ◌-◌, ◌*◌, ◌<◌, ◌≤◌, true, false, ◌&&◌, ◌||◌, ◌==◌, ltb, leb, List, [], ◌∷◌, ◌++◌, length, refl, sym, ap, ◌∙◌, subst, arith}
use Rattle.std.proofs.lemmas.Bool.{and_from, and_left, lt-ltb, cond-true, cond-false, or_parts}
use Rattle.std.specs.Fmt.{decimal}
use Rattle.wh_text.specs.Chars.{is_digit, is_start, is_part}
use Rattle.wh_text.specs.RawTree.{RTy, named_binder, numbered_binder, RTm, named, numbered, free_variable, meta, lam, spine, RTms, none, more}
use Rattle.wh_text.specs.Spelling.{put_part, put_term, put_parts}
use Rattle.wh_cert_letters.specs.Digits.{goes_on}
use Rattle.wh_cert_letters.proofs.NamesAndNumbers.{ReadsNames, name_run, ReadsNumbers, number_run, is_digit_48, goes_on_48}
use Rattle.wh_cert.specs.TermLimits.{term_count, TypeFits, TermFits, TermsFit, IsHead}
use Rattle.wh_cert_parts.specs.TypeMachine.{TypeStack, outside, TypePlace, type_wanted, TypeStep, goes, type_ended, no_type, type_step}
use Rattle.wh_cert_parts.specs.TermMachine.{Stack, base, in_head, in_spine, in_body, Typed, of_free, of_binder, Place, wanted, opened, head_opened, letters, dollar, percent, bound_number, free_number, slash, binder, binder_number, typing, closed, State, at, whole, failed, level, add_term, after, first_digit, typed, step}
use Rattle.wh_cert_parts.proofs.TypeLaws.{GoodTypePlace, TypeScan, in_type, type_read, no_scan, type_scan, type_run, TypeEnds, type_ends}
use Rattle.wh_cert_parts.proofs.TermSound.{GoodPlace, Next, next_same, seen, step_kept, count_add_term}

-- where a list of bytes leads

pub data Scan : Type 0 where
  still : (fs : Stack) (k : Place) → Scan
  read : (t : RTm) (r : List ℕ) → Scan
  stuck : Scan

abbrev pub scan : State → List ℕ → Scan
scan (whole t) r = read t r
scan failed r = stuck
scan (at fs k) [] = still fs k
scan (at fs k) (b ∷ r) = scan (step fs k b) r

-- the same through the reader of types

abbrev typed_scan : Stack → Typed → TypeScan → Scan
typed_scan fs of (in_type tfs tk) = still fs (typing of tfs tk)
typed_scan fs of (type_read a []) = stuck
typed_scan fs of (type_read a (b ∷ r)) = scan (typed fs of (type_ended a b)) r
typed_scan fs of no_scan = stuck

lift_type : (fs : Stack) (of : Typed) (s : TypeStep) (p : List ℕ) → scan (typed fs of s) p ≡ typed_scan fs of (type_scan s p)
lift_type fs of (type_ended a b) p = refl
lift_type fs of no_type p = refl
lift_type fs of (goes tfs tk) [] = refl
lift_type fs of (goes tfs tk) (b ∷ p) = lift_type fs of (type_step tfs tk b) p

-- the byte after a term goes on neither a name nor a number

abbrev pub Stops : List ℕ → Type 0
Stops [] = ⊥
Stops (b ∷ r) = is_part b ≡ false

no_digit : (b : ℕ) → is_part b ≡ false → is_digit b ≡ false
no_digit b h = (or_parts (is_digit b) (b == 39) (or_parts (is_start b) (is_digit b || (b == 39)) h).1).0

goes_on_no : (n b : ℕ) → is_part b ≡ false → goes_on n b ≡ false
goes_on_no n b h = and_left (is_digit b) (ltb 0 n && leb (10 * n + (b - 48)) 65535) (no_digit b h)

letters_stop : (fs : Stack) (xs r : List ℕ) → Stops r → scan (at fs (letters xs)) r ≡ scan (at fs (closed (named xs 0))) r
letters_stop fs xs [] s = absurd s
letters_stop fs xs (b ∷ r) s =
    ap (λ (t : State). scan t r) (cond-false (is_part b && ltb (length xs) 64) (at fs (letters (xs ++ b ∷ []))) (after fs (named xs 0) b) (and_left (is_part b) (ltb (length xs) 64) s))

bound_stop : (fs : Stack) (n : ℕ) (r : List ℕ) → Stops r → scan (at fs (bound_number n)) r ≡ scan (at fs (closed (numbered n 0))) r
bound_stop fs n [] s = absurd s
bound_stop fs n (b ∷ r) s =
    ap (λ (t : State). scan t r) (cond-false (goes_on n b) (at fs (bound_number (10 * n + (b - 48)))) (after fs (numbered n 0) b) (goes_on_no n b s))

type_stop : (fs : Stack) (n : ℕ) (a : RTy) (r : List ℕ) → TypeFits 0 a → Stops r → scan (at fs (typing (of_free n) outside type_wanted)) (put_part a r) ≡ scan (at fs (closed (free_variable n a 0))) r
type_stop fs n a [] h s = absurd s
type_stop fs n a (b ∷ r) h s =
    lift_type fs (of_free n) (goes outside type_wanted) (put_part a (b ∷ r))
    ∙ ap (typed_scan fs (of_free n)) (type_run outside a b r h s)

binder_type : (fs : Stack) (n : ℕ) (a : RTy) (r : List ℕ) → TypeFits 0 a → scan (at fs (typing (of_binder n) outside type_wanted)) (put_part a (46 ∷ r)) ≡ scan (at (in_body n a fs) wanted) r
binder_type fs n a r h =
    lift_type fs (of_binder n) (goes outside type_wanted) (put_part a (46 ∷ r))
    ∙ ap (typed_scan fs (of_binder n)) (type_run outside a 46 r h refl)

reads_numbers : (fs : Stack) (first : Place) (k : ℕ → Place) → ((d : ℕ) (r : List ℕ) → scan (at fs first) (d ∷ r) ≡ scan (first_digit fs k d) r) → ((n b : ℕ) (r : List ℕ) → goes_on n b ≡ true → scan (at fs (k n)) (b ∷ r) ≡ scan (at fs (k (10 * n + (b - 48)))) r) → ReadsNumbers (λ (r : List ℕ). scan (at fs first) r) (λ (n : ℕ) (r : List ℕ). scan (at fs (k n)) r)
reads_numbers fs first k starts goes_k = record {
  starts = λ d r h. starts (48 + d) r ∙ ap (λ (s : State). scan s r) (cond-true (is_digit (48 + d)) (at fs (k (48 + d - 48))) failed (is_digit_48 d h)) ∙ ap (λ (n : ℕ). scan (at fs (k n)) r) (omega arith);
  goes = λ n d r some below fits. goes_k n (48 + d) r (goes_on_48 n d some below fits) ∙ ap (λ (m : ℕ). scan (at fs (k m)) r) (omega arith);
}

reads_bound : (fs : Stack) → ReadsNumbers (λ (r : List ℕ). scan (at fs dollar) r) (λ (n : ℕ) (r : List ℕ). scan (at fs (bound_number n)) r)
reads_bound fs =
    reads_numbers fs dollar bound_number (λ d r. refl) (λ n b r h. ap (λ (s : State). scan s r) (cond-true (goes_on n b) (at fs (bound_number (10 * n + (b - 48)))) _ h))

reads_free : (fs : Stack) → ReadsNumbers (λ (r : List ℕ). scan (at fs percent) r) (λ (n : ℕ) (r : List ℕ). scan (at fs (free_number n)) r)
reads_free fs =
    reads_numbers fs percent free_number (λ d r. refl) (λ n b r h. ap (λ (s : State). scan s r) (cond-true (goes_on n b) (at fs (free_number (10 * n + (b - 48)))) _ h))

reads_binder : (fs : Stack) → ReadsNumbers (λ (r : List ℕ). scan (at fs binder) r) (λ (n : ℕ) (r : List ℕ). scan (at fs (binder_number n)) r)
reads_binder fs =
    reads_numbers fs binder binder_number (λ d r. refl) (λ n b r h. ap (λ (s : State). scan s r) (cond-true (goes_on n b) (at fs (binder_number (10 * n + (b - 48)))) _ h))

-- names and variables begin in the same way wherever a term may begin

pub record Begins (fs : Stack) (first : List ℕ → Scan) : Type 0 where
  pub letter : (b : ℕ) (r : List ℕ) → is_start b ≡ true → first (b ∷ r) ≡ scan (at fs (letters (b ∷ []))) r
  pub bound : (r : List ℕ) → first (36 ∷ r) ≡ scan (at fs dollar) r
  pub free : (r : List ℕ) → first (37 ∷ r) ≡ scan (at fs percent) r

begins_wanted : (fs : Stack) → Begins fs (λ (r : List ℕ). scan (at fs wanted) r)
begins_wanted fs = record {
  letter = λ b r h. ap (λ (s : State). scan s r) (cond-true (is_start b) (at fs (letters (b ∷ []))) _ h);
  bound = λ r. refl;
  free = λ r. refl;
}

begins_opened : (fs : Stack) → Begins (in_head fs) (λ (r : List ℕ). scan (at fs opened) r)
begins_opened fs = record {
  letter = λ b r h. ap (λ (s : State). scan s r) (cond-true (is_start b) (at (in_head fs) (letters (b ∷ []))) _ h);
  bound = λ r. refl;
  free = λ r. refl;
}

reads_letters : (fs : Stack) (first : List ℕ → Scan) → Begins fs first → ReadsNames first (λ (xs r : List ℕ). scan (at fs (letters xs)) r)
reads_letters fs first k = record {
  starts = k.letter;
  goes = λ xs b r p s. ap (λ (t : State). scan t r) (cond-true (is_part b && ltb (length xs) 64) (at fs (letters (xs ++ b ∷ []))) _ (and_from (is_part b) (ltb (length xs) 64) p (lt-ltb (length xs) 64 s)));
}

-- the last number of a term is its place, which is 0
closed_at : (fs : Stack) (first : List ℕ → Scan) (make : ℕ → RTm) (i : ℕ) (w r : List ℕ) → i ≡ 0 → first w ≡ scan (at fs (closed (make 0))) r → first w ≡ scan (at fs (closed (make i))) r
closed_at fs first make i w r zero_is h =
    h ∙ ap (λ (j : ℕ). scan (at fs (closed (make j))) r) (sym zero_is)

named_run : (fs : Stack) (first : List ℕ → Scan) (xs : List ℕ) (i : ℕ) (r : List ℕ) → Begins fs first → (k : ℕ) → TermFits k (named xs i) → Stops r → first (put_term (named xs i) r) ≡ scan (at fs (closed (named xs i))) r
named_run fs first xs i r g k h s =
    closed_at fs first (λ (j : ℕ). named xs j) i (xs ++ r) r h.1 (name_run _ _ (reads_letters fs first g) xs r h.0 ∙ letters_stop fs xs r s)

numbered_run : (fs : Stack) (first : List ℕ → Scan) (n i : ℕ) (r : List ℕ) → Begins fs first → (k : ℕ) → TermFits k (numbered n i) → Stops r → first (put_term (numbered n i) r) ≡ scan (at fs (closed (numbered n i))) r
numbered_run fs first n i r g k h s =
    closed_at fs first (λ (j : ℕ). numbered n j) i (36 ∷ (decimal n ++ r)) r h.1 (g.bound (decimal n ++ r) ∙ number_run _ _ (reads_bound fs) n r h.0 ∙ bound_stop fs n r s)

free_colon : (fs : Stack) (n : ℕ) (r : List ℕ) → scan (at fs (free_number n)) (58 ∷ r) ≡ scan (at fs (typing (of_free n) outside type_wanted)) r
free_colon fs n r = refl

free_run : (fs : Stack) (first : List ℕ → Scan) (n : ℕ) (a : RTy) (i : ℕ) (r : List ℕ) → Begins fs first → (k : ℕ) → TermFits k (free_variable n a i) → Stops r → first (put_term (free_variable n a i) r) ≡ scan (at fs (closed (free_variable n a i))) r
free_run fs first n a i r g k h s =
    closed_at fs first (λ (j : ℕ). free_variable n a j) i (put_term (free_variable n a i) r) r h.2
    (g.free (decimal n ++ (58 ∷ put_part a r)) ∙ number_run _ _ (reads_free fs) n (58 ∷ put_part a r) h.0 ∙ free_colon fs n (put_part a r) ∙ type_stop fs n a r h.1 s)

-- abstractions, behind their `(\`

binder_colon : (fs : Stack) (n : ℕ) (r : List ℕ) → scan (at fs (binder_number n)) (58 ∷ r) ≡ scan (at fs (typing (of_binder n) outside type_wanted)) r
binder_colon fs n r = refl

body_closes : (fs : Stack) (n : ℕ) (a : RTy) (t : RTm) (r : List ℕ) → scan (at (in_body n a fs) (closed t)) (41 ∷ r) ≡ scan (at fs (closed (lam (numbered_binder n) a t 0))) r
body_closes fs n a t r = refl

lam_run : (fs : Stack) (n : ℕ) (a : RTy) (t : RTm) (i : ℕ) (r : List ℕ) → n ≤ 65535 → TypeFits 0 a → i ≡ 0 → (scan (at (in_body n a fs) wanted) (put_term t (41 ∷ r)) ≡ scan (at (in_body n a fs) (closed t)) (41 ∷ r)) → scan (at fs slash) (36 ∷ (decimal n ++ (58 ∷ put_part a (46 ∷ put_term t (41 ∷ r))))) ≡ scan (at fs (closed (lam (numbered_binder n) a t i))) r
lam_run fs n a t i r small fits zero_is body =
    closed_at fs (λ (w : List ℕ). scan (at fs slash) w) (λ (j : ℕ). lam (numbered_binder n) a t j) i (36 ∷ (decimal n ++ (58 ∷ put_part a (46 ∷ put_term t (41 ∷ r))))) r zero_is
    (number_run _ _ (reads_binder fs) n (58 ∷ put_part a (46 ∷ put_term t (41 ∷ r))) small
    ∙ binder_colon fs n (put_part a (46 ∷ put_term t (41 ∷ r)))
    ∙ binder_type fs n a (put_term t (41 ∷ r)) fits
    ∙ body
    ∙ body_closes fs n a t r)

opens : (fs : Stack) (r : List ℕ) → level fs < 200 → scan (at fs wanted) (40 ∷ r) ≡ scan (at fs opened) r
opens fs r low = ap (λ (s : State). scan s r) (cond-true (ltb (level fs) 200) (at fs opened) failed (lt-ltb (level fs) 200 low))

opened_slash : (fs : Stack) (r : List ℕ) → scan (at fs opened) (92 ∷ r) ≡ scan (at fs slash) r
opened_slash fs r = refl

head_slash : (fs : Stack) (r : List ℕ) → suc (level fs) < 200 → scan (at fs opened) (40 ∷ 92 ∷ r) ≡ scan (at (in_head fs) slash) r
head_slash fs r low =
    ap (λ (s : State). scan s (92 ∷ r)) (cond-true (ltb (suc (level fs)) 200) (at (in_head fs) head_opened) failed (lt-ltb (suc (level fs)) 200 low))

-- spines, behind their heads

abbrev pub join_terms : RTms → RTms → RTms
join_terms none us = us
join_terms (more t ts) us = more t (join_terms ts us)

join_add : (ts : RTms) (t : RTm) (us : RTms) → join_terms (add_term ts t) us ≡ join_terms ts (more t us)
join_add none t us = refl
join_add (more u ts) t us = ap (λ (vs : RTms). more u vs) (join_add ts t us)

join_none : (ts : RTms) → join_terms ts none ≡ ts
join_none none = refl
join_none (more t ts) = ap (λ (us : RTms). more t us) (join_none ts)

-- in the state the head and these arguments have ended
pub record Ready (fs : Stack) (h : RTm) (ts : RTms) (s : State) : Type 0 where
  pub space : (r : List ℕ) → term_count ts < 32 → scan s (32 ∷ r) ≡ scan (at (in_spine h ts fs) wanted) r
  pub closes : (r : List ℕ) → 0 < term_count ts → scan s (41 ∷ r) ≡ scan (at fs (closed (spine h ts 0))) r

ready_head : (fs : Stack) (h : RTm) → Ready fs h none (at (in_head fs) (closed h))
ready_head fs h = record { space = λ r low. refl; closes = λ r some. absurd (omega arith) }

ready_more : (fs : Stack) (h : RTm) (ts : RTms) (t : RTm) → Ready fs h (add_term ts t) (at (in_spine h ts fs) (closed t))
ready_more fs h ts t = record {
  space = λ r low. ap (λ (s : State). scan s r) (cond-true (ltb (suc (term_count ts)) 32) (at (in_spine h (add_term ts t) fs) wanted) failed (lt-ltb (suc (term_count ts)) 32 (omega (arith, count_add_term ts t))));
  closes = λ r some. refl;
}

parts_stop : (ts : RTms) (r : List ℕ) → Stops (put_parts ts (41 ∷ r))
parts_stop none r = refl
parts_stop (more t ts) r = refl

mutual
  pub term_run : (fs : Stack) (t : RTm) (r : List ℕ) → TermFits (level fs) t → Stops r → scan (at fs wanted) (put_term t r) ≡ scan (at fs (closed t)) r
  term_run fs (named xs i) r h s = named_run fs _ xs i r (begins_wanted fs) (level fs) h s
  term_run fs (numbered n i) r h s = numbered_run fs _ n i r (begins_wanted fs) (level fs) h s
  term_run fs (free_variable n a i) r h s = free_run fs _ n a i r (begins_wanted fs) (level fs) h s
  term_run fs (meta z ts i) r h s = absurd h
  term_run fs (lam (named_binder x) a t i) r h s = absurd h
  term_run fs (lam (numbered_binder n) a t i) r h s =
      opens fs (92 ∷ 36 ∷ (decimal n ++ (58 ∷ put_part a (46 ∷ put_term t (41 ∷ r))))) h.0
      ∙ opened_slash fs (36 ∷ (decimal n ++ (58 ∷ put_part a (46 ∷ put_term t (41 ∷ r)))))
      ∙ lam_run fs n a t i r h.1 h.2 h.4 (term_run (in_body n a fs) t (41 ∷ r) h.3 refl)
  term_run fs (spine h ts i) r f s =
      opens fs (put_term h (put_parts ts (41 ∷ r))) f.0
      ∙ head_run fs h (put_parts ts (41 ∷ r)) f.2 f.1 (parts_stop ts r)
      ∙ parts_run fs h none ts (at (in_head fs) (closed h)) r (ready_head fs h) f.5 (omega (arith, f.3)) (omega (arith, f.4))
      ∙ ap (λ (j : ℕ). scan (at fs (closed (spine h ts j))) r) (sym f.6)

  head_run : (fs : Stack) (t : RTm) (r : List ℕ) → TermFits (suc (level fs)) t → IsHead t → Stops r → scan (at fs opened) (put_term t r) ≡ scan (at (in_head fs) (closed t)) r
  head_run fs (named xs i) r f h s = named_run (in_head fs) _ xs i r (begins_opened fs) (suc (level fs)) f s
  head_run fs (numbered n i) r f h s = numbered_run (in_head fs) _ n i r (begins_opened fs) (suc (level fs)) f s
  head_run fs (free_variable n a i) r f h s = free_run (in_head fs) _ n a i r (begins_opened fs) (suc (level fs)) f s
  head_run fs (meta z ts i) r f h s = absurd f
  head_run fs (lam (named_binder x) a t i) r f h s = absurd f
  head_run fs (lam (numbered_binder n) a t i) r f h s =
      head_slash fs (36 ∷ (decimal n ++ (58 ∷ put_part a (46 ∷ put_term t (41 ∷ r))))) f.0
      ∙ lam_run (in_head fs) n a t i r f.1 f.2 f.4 (term_run (in_body n a (in_head fs)) t (41 ∷ r) f.3 refl)
  head_run fs (spine g ts i) r f h s = absurd h

  parts_run : (fs : Stack) (h : RTm) (done todo : RTms) (x : State) (r : List ℕ) → Ready fs h done x → TermsFit (suc (level fs)) todo → 0 < term_count done + term_count todo → term_count done + term_count todo ≤ 32 → scan x (put_parts todo (41 ∷ r)) ≡ scan (at fs (closed (spine h (join_terms done todo) 0))) r
  parts_run fs h done none x r ready f some room =
      ready.closes r (omega arith)
      ∙ ap (λ (ts : RTms). scan (at fs (closed (spine h ts 0))) r) (sym (join_none done))
  parts_run fs h done (more t ts) x r ready f some room =
      ready.space (put_term t (put_parts ts (41 ∷ r))) (omega (arith, room))
      ∙ term_run (in_spine h done fs) t (put_parts ts (41 ∷ r)) f.0 (parts_stop ts r)
      ∙ parts_run fs h (add_term done t) ts (at (in_spine h done fs) (closed t)) r (ready_more fs h done t) f.1 (omega (arith, count_add_term done t)) (omega (arith, room, count_add_term done t))
      ∙ ap (λ (us : RTms). scan (at fs (closed (spine h us 0))) r) (join_add done t ts)

-- what was read is spelled

pub term_sound : (s : State) (p : List ℕ) (f : List ℕ → List ℕ) (t : RTm) (r : List ℕ) → Next s f → scan s p ≡ read t r → TermFits 0 t × (put_term t (10 ∷ r) ≡ f p)
term_sound (whole u) p f t r n e =
    let same : u ≡ t = cc in
    let rest : p ≡ r = cc in
    (subst (TermFits 0) same n.0, sym (ap (λ (q : List ℕ). put_term u (10 ∷ q)) rest ∙ ap (λ (v : RTm). put_term v (10 ∷ r)) same) ∙ n.1 p)
term_sound failed p f t r n e = absurd cc
term_sound (at fs k) [] f t r n e = absurd cc
term_sound (at fs k) (b ∷ p) f t r n e =
    term_sound (step fs k b) p (λ q. f (b ∷ q)) t r (next_same (step fs k b) (λ q. seen fs k (b ∷ q)) (λ q. f (b ∷ q)) (λ q. n.2 (b ∷ q)) (step_kept fs k b n.0 n.1)) e

-- every front can be ended

-- what ends the open parentheses behind a term, and the line
abbrev pub closing : Stack → List ℕ → List ℕ
closing base r = 10 ∷ r
closing (in_head fs) r = 32 ∷ 97 ∷ 41 ∷ closing fs r
closing (in_spine h ts fs) r = 41 ∷ closing fs r
closing (in_body n a fs) r = 41 ∷ closing fs r

closing_stops : (fs : Stack) (r : List ℕ) → Stops (closing fs r)
closing_stops base r = refl
closing_stops (in_head fs) r = refl
closing_stops (in_spine h ts fs) r = refl
closing_stops (in_body n a fs) r = refl

-- the bytes w lead from the state to the end of some term
pub record TermEnds (s : State) : Type 0 where
  pub tail : List ℕ → List ℕ
  pub t : RTm
  pub ends : (r : List ℕ) → scan s (tail r) ≡ read t r

after_bytes : (s u : State) (w : List ℕ → List ℕ) → ((r : List ℕ) → scan s (w r) ≡ scan u r) → TermEnds u → TermEnds s
after_bytes s u w leads e =
    record { tail = λ r. w (e.tail r); t = e.t; ends = λ r. leads (e.tail r) ∙ e.ends r }

pub record Closed (fs : Stack) (t : RTm) : Type 0 where
  pub u : RTm
  pub ends : (r : List ℕ) → scan (at fs (closed t)) (closing fs r) ≡ read u r

closed_ends : (fs : Stack) (t : RTm) → Closed fs t
closed_ends base t = record { u = t; ends = λ r. refl }
closed_ends (in_head fs) t =
    let e = closed_ends fs (spine t (more (named (97 ∷ []) 0) none) 0) in
    record { u = e.u; ends = e.ends }
closed_ends (in_spine h ts fs) t =
    let e = closed_ends fs (spine h (add_term ts t) 0) in
    record { u = e.u; ends = e.ends }
closed_ends (in_body n a fs) t =
    let e = closed_ends fs (lam (numbered_binder n) a t 0) in
    record { u = e.u; ends = e.ends }

-- a state that goes on as if the term had ended, where no byte of a name comes
stopped_ends : (fs : Stack) (t : RTm) (s : State) → ((r : List ℕ) → Stops r → scan s r ≡ scan (at fs (closed t)) r) → TermEnds s
stopped_ends fs t s same =
    let e = closed_ends fs t in
    record { tail = closing fs; t = e.u; ends = λ r. same (closing fs r) (closing_stops fs r) ∙ e.ends r }

letters_end : (fs : Stack) (xs : List ℕ) → TermEnds (at fs (letters xs))
letters_end fs xs = stopped_ends fs (named xs 0) (at fs (letters xs)) (letters_stop fs xs)

bound_ends : (fs : Stack) (n : ℕ) → TermEnds (at fs (bound_number n))
bound_ends fs n = stopped_ends fs (numbered n 0) (at fs (bound_number n)) (bound_stop fs n)

-- a type with the byte behind it
typed_from : (fs : Stack) (of : Typed) (tfs : TypeStack) (tk : TypePlace) (e : TypeEnds (goes tfs tk)) (b : ℕ) (r : List ℕ) → is_part b ≡ false → scan (at fs (typing of tfs tk)) (e.tail (b ∷ r)) ≡ scan (typed fs of (type_ended e.a b)) r
typed_from fs of tfs tk e b r stop =
    lift_type fs of (goes tfs tk) (e.tail (b ∷ r)) ∙ ap (typed_scan fs of) (e.ends b r stop)

free_from : (fs : Stack) (n : ℕ) (tfs : TypeStack) (tk : TypePlace) (e : TypeEnds (goes tfs tk)) (r : List ℕ) → Stops r → scan (at fs (typing (of_free n) tfs tk)) (e.tail r) ≡ scan (at fs (closed (free_variable n e.a 0))) r
free_from fs n tfs tk e [] s = absurd s
free_from fs n tfs tk e (b ∷ r) s = typed_from fs (of_free n) tfs tk e b r s

typing_ends : (fs : Stack) (of : Typed) (tfs : TypeStack) (tk : TypePlace) → GoodTypePlace tfs tk → TermEnds (at fs (typing of tfs tk))
typing_ends fs (of_free n) tfs tk g =
    let e = type_ends tfs tk g in
    let c = closed_ends fs (free_variable n e.a 0) in
    record { tail = λ r. e.tail (closing fs r); t = c.u; ends = λ r. free_from fs n tfs tk e (closing fs r) (closing_stops fs r) ∙ c.ends r }
typing_ends fs (of_binder n) tfs tk g =
    let e = type_ends tfs tk g in
    after_bytes (at fs (typing (of_binder n) tfs tk)) (at (in_body n e.a fs) (letters (97 ∷ []))) (λ r. e.tail (46 ∷ 97 ∷ r))
    (λ r. typed_from fs (of_binder n) tfs tk e 46 (97 ∷ r) refl)
    (letters_end (in_body n e.a fs) (97 ∷ []))

free_ends : (fs : Stack) (n : ℕ) → TermEnds (at fs (free_number n))
free_ends fs n =
    after_bytes (at fs (free_number n)) (at fs (typing (of_free n) outside type_wanted)) (λ r. 58 ∷ r) (λ r. refl) (typing_ends fs (of_free n) outside type_wanted tt)

binder_ends : (fs : Stack) (n : ℕ) → TermEnds (at fs (binder_number n))
binder_ends fs n =
    after_bytes (at fs (binder_number n)) (at fs (typing (of_binder n) outside type_wanted)) (λ r. 58 ∷ r) (λ r. refl) (typing_ends fs (of_binder n) outside type_wanted tt)

slash_ends : (fs : Stack) → TermEnds (at fs slash)
slash_ends fs =
    after_bytes (at fs slash) (at fs (binder_number 0)) (λ r. 36 ∷ 48 ∷ r) (λ r. refl) (binder_ends fs 0)

pub term_ends : (fs : Stack) (k : Place) → GoodPlace fs k → TermEnds (at fs k)
term_ends fs wanted g =
    after_bytes (at fs wanted) (at fs (letters (97 ∷ []))) (λ r. 97 ∷ r) (λ r. refl) (letters_end fs (97 ∷ []))
term_ends fs opened g =
    after_bytes (at fs opened) (at (in_head fs) (letters (97 ∷ []))) (λ r. 97 ∷ r) (λ r. refl) (letters_end (in_head fs) (97 ∷ []))
term_ends fs head_opened g = after_bytes (at fs head_opened) (at fs slash) (λ r. 92 ∷ r) (λ r. refl) (slash_ends fs)
term_ends fs (letters xs) g = letters_end fs xs
term_ends fs dollar g = after_bytes (at fs dollar) (at fs (bound_number 0)) (λ r. 48 ∷ r) (λ r. refl) (bound_ends fs 0)
term_ends fs percent g = after_bytes (at fs percent) (at fs (free_number 0)) (λ r. 48 ∷ r) (λ r. refl) (free_ends fs 0)
term_ends fs (bound_number n) g = bound_ends fs n
term_ends fs (free_number n) g = free_ends fs n
term_ends fs slash g = slash_ends fs
term_ends fs binder g =
    after_bytes (at fs binder) (at fs (binder_number 0)) (λ r. 48 ∷ r) (λ r. refl) (binder_ends fs 0)
term_ends fs (binder_number n) g = binder_ends fs n
term_ends fs (typing of tfs tk) g = typing_ends fs of tfs tk g.2
term_ends fs (closed t) g =
    stopped_ends fs t (at fs (closed t)) (λ r s. refl)
