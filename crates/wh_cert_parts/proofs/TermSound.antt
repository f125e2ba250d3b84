-- What the reader of terms has read is spelled: each step keeps what a place has read, and that it is within the limits.
use Rattle.std.proofs.Common.{◌≡◌, ℕ, suc, ◌+◌, ◌-◌, ◌*◌, ◌<◌, ◌≤◌, Bool, true, cond, ◌&&◌, ◌==◌, ltb, eqb, List, [], ◌∷◌, ◌++◌, length, refl, sym, ap, ◌∙◌, subst, arith, append_assoc}
use Rattle.std.proofs.lemmas.Bool.{and_parts, eqb-true, ltb-true, cond_both}
use Rattle.std.specs.Fmt.{decimal}
use Rattle.wh_text.specs.Chars.{is_digit, is_start, is_part}
use Rattle.wh_text.specs.Words.{IsWord}
use Rattle.wh_text.specs.RawTree.{numbered_binder, RTm, named, numbered, free_variable, lam, spine, RTms, none, more}
use Rattle.wh_text.specs.Spelling.{put_part, put_term, put_parts}
use Rattle.wh_cert_letters.specs.Digits.{goes_on}
use Rattle.wh_cert_letters.proofs.NamesAndNumbers.{first_letter, next_letter, first_digit_spelled, first_digit_small, goes_on_true, next_digit_spelled}
use Rattle.wh_cert.specs.TermLimits.{term_count, TypeFits, TermFits, TermsFit, IsHead}
use Rattle.wh_cert_parts.specs.TypeMachine.{outside, type_wanted, TypeStep, goes, type_ended, no_type, type_step}
use Rattle.wh_cert_parts.specs.TermMachine.{Stack, base, in_head, in_spine, in_body, Typed, of_free, of_binder, Place, wanted, opened, head_opened, letters, dollar, percent, bound_number, free_number, slash, binder, binder_number, typing, closed, State, at, whole, failed, level, add_term, after, begin, first_digit, typed, step}
use Rattle.wh_cert_parts.proofs.TypeLaws.{type_seen, GoodTypes, GoodTypePlace, TypeNext, type_kept}

-- what a place has read, with r behind it

abbrev pub front : Stack → List ℕ → List ℕ
front base r = r
front (in_head fs) r = front fs (40 ∷ r)
front (in_spine h ts fs) r = front fs (40 ∷ put_term h (put_parts ts (32 ∷ r)))
front (in_body n a fs) r = front fs (40 ∷ 92 ∷ 36 ∷ (decimal n ++ (58 ∷ put_part a (46 ∷ r))))

abbrev pub put_typed : Typed → List ℕ → List ℕ
put_typed (of_free n) r = 37 ∷ (decimal n ++ (58 ∷ r))
put_typed (of_binder n) r = 40 ∷ 92 ∷ 36 ∷ (decimal n ++ (58 ∷ r))

abbrev pub seen : Stack → Place → List ℕ → List ℕ
seen fs wanted r = front fs r
seen fs opened r = front fs (40 ∷ r)
seen fs head_opened r = front fs (40 ∷ r)
seen fs (letters xs) r = front fs (xs ++ r)
seen fs dollar r = front fs (36 ∷ r)
seen fs percent r = front fs (37 ∷ r)
seen fs (bound_number n) r = front fs (36 ∷ (decimal n ++ r))
seen fs (free_number n) r = front fs (37 ∷ (decimal n ++ r))
seen fs slash r = front fs (40 ∷ 92 ∷ r)
seen fs binder r = front fs (40 ∷ 92 ∷ 36 ∷ r)
seen fs (binder_number n) r = front fs (40 ∷ 92 ∷ 36 ∷ (decimal n ++ r))
seen fs (typing of tfs tk) r = front fs (put_typed of (type_seen tfs tk r))
seen fs (closed t) r = front fs (put_term t r)

-- what is read so far is within the limits

-- a term of any form may begin: none does where a head is wanted
abbrev pub NotHead : Stack → Type 0
NotHead (in_head fs) = ⊥
NotHead _ = Unit {0}

-- the term may end here: as a head it is no spine
abbrev pub HeadFits : Stack → RTm → Type 0
HeadFits (in_head fs) t = IsHead t
HeadFits _ t = Unit {0}

abbrev pub GoodStack : Stack → Type 0
GoodStack base = Unit {0}
GoodStack (in_head fs) = (level fs < 200) × NotHead fs × GoodStack fs
GoodStack (in_spine h ts fs) = (level fs < 200) × NotHead fs × IsHead h × TermFits (suc (level fs)) h × TermsFit (suc (level fs)) ts × (term_count ts < 32) × GoodStack fs
GoodStack (in_body n a fs) = (level fs < 200) × (n ≤ 65535) × TypeFits 0 a × GoodStack fs

abbrev pub GoodTyped : Stack → Typed → Type 0
GoodTyped fs (of_free n) = n ≤ 65535
GoodTyped fs (of_binder n) = (level fs < 200) × (n ≤ 65535)

abbrev pub GoodPlace : Stack → Place → Type 0
GoodPlace fs wanted = NotHead fs
GoodPlace fs opened = NotHead fs × (level fs < 200)
GoodPlace fs head_opened = level fs < 200
GoodPlace fs (letters xs) = IsWord xs
GoodPlace fs dollar = Unit {0}
GoodPlace fs percent = Unit {0}
GoodPlace fs (bound_number n) = n ≤ 65535
GoodPlace fs (free_number n) = n ≤ 65535
GoodPlace fs slash = level fs < 200
GoodPlace fs binder = level fs < 200
GoodPlace fs (binder_number n) = (level fs < 200) × (n ≤ 65535)
GoodPlace fs (typing of tfs tk) = GoodTyped fs of × GoodTypes tfs × GoodTypePlace tfs tk
GoodPlace fs (closed t) = TermFits (level fs) t × HeadFits fs t

-- the state is good and has read f
abbrev pub Next : State → (List ℕ → List ℕ) → Type 0
Next (at fs k) f = GoodStack fs × GoodPlace fs k × ((r : List ℕ) → seen fs k r ≡ f r)
Next (whole t) f = TermFits 0 t × ((r : List ℕ) → put_term t (10 ∷ r) ≡ f r)
Next failed f = Unit {0}

if_byte : (b c : ℕ) (q : Bool) (s o : State) (f : List ℕ → List ℕ) → (q ≡ true → Next s (λ r. f (c ∷ r))) → Next o (λ r. f (b ∷ r)) → Next (cond ((b == c) && q) s o) (λ r. f (b ∷ r))
if_byte b c q s o f so other =
    cond_both ((b == c) && q) s o (λ t. Next t (λ r. f (b ∷ r)))
    (λ e. let both = and_parts (eqb b c) q e in subst (λ (x : ℕ). Next s (λ r. f (x ∷ r))) (sym (eqb-true b c both.0)) (so both.1))
    (λ e. other)

if_just : (b c : ℕ) (s o : State) (f : List ℕ → List ℕ) → Next s (λ r. f (c ∷ r)) → Next o (λ r. f (b ∷ r)) → Next (cond (b == c) s o) (λ r. f (b ∷ r))
if_just b c s o f so other =
    cond_both (b == c) s o (λ t. Next t (λ r. f (b ∷ r)))
    (λ e. subst (λ (x : ℕ). Next s (λ r. f (x ∷ r))) (sym (eqb-true b c e)) so)
    (λ e. other)

if_so : (t : Bool) (s o : State) (f : List ℕ → List ℕ) → (t ≡ true → Next s f) → Next o f → Next (cond t s o) f
if_so t s o f so other = cond_both t s o (λ u. Next u f) so (λ e. other)

pub next_same : (s : State) (f g : List ℕ → List ℕ) → ((r : List ℕ) → f r ≡ g r) → Next s f → Next s g
next_same (at fs k) f g same n = (n.0, n.1, λ r. n.2 r ∙ same r)
next_same (whole t) f g same n = (n.0, λ r. n.1 r ∙ same r)
next_same failed f g same n = tt

-- one more argument

pub count_add_term : (ts : RTms) (t : RTm) → term_count (add_term ts t) ≡ suc (term_count ts)
count_add_term none t = refl
count_add_term (more u us) t = ap suc (count_add_term us t)

fit_add_term : (k : ℕ) (ts : RTms) (t : RTm) → TermsFit k ts → TermFits k t → TermsFit k (add_term ts t)
fit_add_term k none t h fits = (fits, tt)
fit_add_term k (more u us) t h fits = (h.0, fit_add_term k us t h.1 fits)

put_add_term : (ts : RTms) (t : RTm) (r : List ℕ) → put_parts (add_term ts t) r ≡ put_parts ts (32 ∷ put_term t r)
put_add_term none t r = refl
put_add_term (more u us) t r = ap (λ (s : List ℕ). 32 ∷ put_term u s) (put_add_term us t r)

any_fits : (fs : Stack) (t : RTm) → NotHead fs → HeadFits fs t
any_fits base t h = tt
any_fits (in_head fs) t h = absurd h
any_fits (in_spine g ts fs) t h = tt
any_fits (in_body n a fs) t h = tt

head_fits : (fs : Stack) (t : RTm) → IsHead t → HeadFits fs t
head_fits base t h = tt
head_fits (in_head fs) t h = h
head_fits (in_spine g ts fs) t h = tt
head_fits (in_body n a fs) t h = tt

-- each step keeps

after_kept : (fs : Stack) (t : RTm) (b : ℕ) (f : List ℕ → List ℕ) → GoodStack fs → TermFits (level fs) t → HeadFits fs t → ((r : List ℕ) → front fs (put_term t r) ≡ f r) → Next (after fs t b) (λ r. f (b ∷ r))
after_kept base t b f g fits head same = if_just b 10 (whole t) failed f (fits, λ r. same (10 ∷ r)) tt
after_kept (in_head fs) t b f g fits head same =
    if_just b 32 (at (in_spine t none fs) wanted) failed f
    ((g.0, g.1, head, fits, tt, omega arith, g.2), tt, λ r. same (32 ∷ r))
    tt
after_kept (in_spine h ts fs) t b f g fits head same =
    let count = count_add_term ts t in
    let fit = fit_add_term (suc (level fs)) ts t g.4 fits in
    if_just b 41 (at fs (closed (spine h (add_term ts t) 0))) _ f (
      g.6,
      ((g.0, g.2, g.3, omega (arith, count), omega (arith, count, g.5), fit, refl), any_fits fs (spine h (add_term ts t) 0) g.1),
      λ r. ap (λ (s : List ℕ). front fs (40 ∷ put_term h s)) (put_add_term ts t (41 ∷ r)) ∙ same (41 ∷ r),
    )
    (if_byte b 32 (ltb (suc (term_count ts)) 32) (at (in_spine h (add_term ts t) fs) wanted) failed f
    (λ e. let room = ltb-true (suc (term_count ts)) 32 e in ((g.0, g.1, g.2, g.3, fit, omega (arith, count), g.6), tt, λ r. ap (λ (s : List ℕ). front fs (40 ∷ put_term h s)) (put_add_term ts t (32 ∷ r)) ∙ same (32 ∷ r)))
    tt)
after_kept (in_body n a fs) t b f g fits head same =
    if_just b 41 (at fs (closed (lam (numbered_binder n) a t 0))) failed f
    (g.3, ((g.0, g.1, g.2, fits, refl), head_fits fs (lam (numbered_binder n) a t 0) tt), λ r. same (41 ∷ r))
    tt

begin_kept : (fs : Stack) (b : ℕ) (other : State) → GoodStack fs → Next other (λ r. front fs (b ∷ r)) → Next (begin fs b other) (λ r. front fs (b ∷ r))
begin_kept fs b other g n =
    if_so (is_start b) (at fs (letters (b ∷ []))) _ (λ r. front fs (b ∷ r))
    (λ e. (g, first_letter b e, λ r. refl))
    (if_just b 36 (at fs dollar) _ (front fs) (g, tt, λ r. refl) (if_just b 37 (at fs percent) other (front fs) (g, tt, λ r. refl) n))

first_digit_kept : (fs : Stack) (k : ℕ → Place) (b : ℕ) (f : List ℕ → List ℕ) → GoodStack fs → ((n : ℕ) → n ≤ 65535 → GoodPlace fs (k n)) → ((n : ℕ) (r : List ℕ) → seen fs (k n) r ≡ f (decimal n ++ r)) → Next (first_digit fs k b) (λ r. f (b ∷ r))
first_digit_kept fs k b f g good same =
    if_so (is_digit b) (at fs (k (b - 48))) failed (λ r. f (b ∷ r))
    (λ e. (g, good (b - 48) (first_digit_small b e), λ r. same (b - 48) r ∙ ap f (first_digit_spelled b r e)))
    tt

digits_kept : (fs : Stack) (k : ℕ → Place) (n b : ℕ) (other : State) (f : List ℕ → List ℕ) → GoodStack fs → ((m : ℕ) → m ≤ 65535 → GoodPlace fs (k m)) → ((m : ℕ) (r : List ℕ) → seen fs (k m) r ≡ f (decimal m ++ r)) → Next other (λ r. f (decimal n ++ b ∷ r)) → Next (cond (goes_on n b) (at fs (k (10 * n + (b - 48)))) other) (λ r. f (decimal n ++ b ∷ r))
digits_kept fs k n b other f g good same rest =
    if_so (goes_on n b) (at fs (k (10 * n + (b - 48)))) other (λ r. f (decimal n ++ b ∷ r))
    (λ e. let is = goes_on_true n b e in (g, good (10 * n + (b - 48)) is.fits, λ r. same (10 * n + (b - 48)) r ∙ ap f (next_digit_spelled n b r e)))
    rest

typed_kept : (fs : Stack) (of : Typed) (s : TypeStep) (g : List ℕ → List ℕ) → GoodStack fs → GoodTyped fs of → TypeNext s g → Next (typed fs of s) (λ r. front fs (put_typed of (g r)))
typed_kept fs of (goes tfs tk) g stack good n =
    (stack, (good, n.0, n.1), λ r. ap (λ (s : List ℕ). front fs (put_typed of s)) (n.2 r))
typed_kept fs (of_free n) (type_ended a b) g stack good next =
    next_same (after fs (free_variable n a 0) b) (λ r. front fs (put_term (free_variable n a 0) (b ∷ r))) (λ r. front fs (put_typed (of_free n) (g r)))
    (λ r. ap (λ (s : List ℕ). front fs (put_typed (of_free n) s)) (next.1 r))
    (after_kept fs (free_variable n a 0) b (λ r. front fs (put_term (free_variable n a 0) r)) stack (good, next.0, refl) (head_fits fs (free_variable n a 0) tt) (λ r. refl))
typed_kept fs (of_binder n) (type_ended a b) g stack good next =
    next_same (typed fs (of_binder n) (type_ended a b)) (λ r. front fs (put_typed (of_binder n) (put_part a (b ∷ r)))) (λ r. front fs (put_typed (of_binder n) (g r)))
    (λ r. ap (λ (s : List ℕ). front fs (put_typed (of_binder n) s)) (next.1 r))
    (if_just b 46 (at (in_body n a fs) wanted) failed (λ r. front fs (put_typed (of_binder n) (put_part a r)))
    ((good.0, good.1, next.0, stack), tt, λ r. refl)
    tt)
typed_kept fs of no_type g stack good n = tt

pub step_kept : (fs : Stack) (k : Place) (b : ℕ) → GoodStack fs → GoodPlace fs k → Next (step fs k b) (λ r. seen fs k (b ∷ r))
step_kept fs wanted b g p =
    begin_kept fs b _ g
    (if_byte b 40 (ltb (level fs) 200) (at fs opened) failed (front fs) (λ e. (g, (p, ltb-true (level fs) 200 e), λ r. refl)) tt)
step_kept fs opened b g p =
    begin_kept (in_head fs) b _ (p.1, p.0, g)
    (if_just b 92 (at fs slash) _ (front (in_head fs)) (g, p.1, λ r. refl)
    (if_byte b 40 (ltb (suc (level fs)) 200) (at (in_head fs) head_opened) failed (front (in_head fs)) (λ e. ((p.1, p.0, g), ltb-true (suc (level fs)) 200 e, λ r. refl)) tt))
step_kept fs head_opened b g p = if_just b 92 (at fs slash) failed (seen fs head_opened) (g, p, λ r. refl) tt
step_kept fs (letters xs) b g w =
    if_so (is_part b && ltb (length xs) 64) (at fs (letters (xs ++ b ∷ []))) _ (λ r. seen fs (letters xs) (b ∷ r))
    (λ e. (g, next_letter xs b w e, λ r. ap (front fs) (append_assoc xs (b ∷ []) r)))
    (after_kept fs (named xs 0) b (seen fs (letters xs)) g (w, refl) (head_fits fs (named xs 0) tt) (λ r. refl))
step_kept fs dollar b g p = first_digit_kept fs bound_number b (seen fs dollar) g (λ n h. h) (λ n r. refl)
step_kept fs percent b g p = first_digit_kept fs free_number b (seen fs percent) g (λ n h. h) (λ n r. refl)
step_kept fs binder b g p = first_digit_kept fs binder_number b (seen fs binder) g (λ n h. (p, h)) (λ n r. refl)
step_kept fs (bound_number n) b g p =
    digits_kept fs bound_number n b _ (seen fs dollar) g (λ m h. h) (λ m r. refl)
    (after_kept fs (numbered n 0) b (seen fs (bound_number n)) g (p, refl) (head_fits fs (numbered n 0) tt) (λ r. refl))
step_kept fs (free_number n) b g p =
    digits_kept fs free_number n b _ (seen fs percent) g (λ m h. h) (λ m r. refl)
    (if_just b 58 (at fs (typing (of_free n) outside type_wanted)) failed (seen fs (free_number n)) (g, (p, tt, tt), λ r. refl) tt)
step_kept fs (binder_number n) b g p =
    digits_kept fs binder_number n b _ (seen fs binder) g (λ m h. (p.0, h)) (λ m r. refl)
    (if_just b 58 (at fs (typing (of_binder n) outside type_wanted)) failed (seen fs (binder_number n)) (g, (p, tt, tt), λ r. refl) tt)
step_kept fs slash b g p = if_just b 36 (at fs binder) failed (seen fs slash) (g, p, λ r. refl) tt
step_kept fs (typing of tfs tk) b g p =
    typed_kept fs of (type_step tfs tk b) (λ r. type_seen tfs tk (b ∷ r)) g p.0 (type_kept tfs tk b p.1 p.2)
step_kept fs (closed t) b g p = after_kept fs t b (seen fs (closed t)) g p.0 p.1 (λ r. refl)
