-- What the reader of inferences has read is spelled, and is within the limits.
use Rattle.std.proofs.Common.{◌≡◌, ℕ, suc, ◌+◌, ◌-◌, ◌*◌, ◌<◌, ◌≤◌, Bool, true, cond, ◌==◌, ltb, List, [], ◌∷◌, ◌++◌, Option, Some, None, refl, sym, ap, ◌∙◌, subst}
use Rattle.std.proofs.lemmas.Bool.{eqb-true, ltb-true, cond_both}
use Rattle.std.specs.Fmt.{decimal}
use Rattle.wh_text.specs.Chars.{is_digit}
use Rattle.wh_cert_letters.specs.Digits.{goes_on}
use Rattle.wh_cert_letters.proofs.NamesAndNumbers.{goes_on_true, first_digit_spelled, first_digit_small, next_digit_spelled}
use Rattle.wh_order_inference.specs.Inferences.{Letter, same_trees, bodies, arguments, part, lower, first_less, spine_parts, body, variable, meta_part, Inference, infer, Inferences, no_parts, more_parts}
use Rattle.wh_order_inference.specs.InferenceText.{Form, alone, with_parts, with_place, form, sign, put_place, put_listed, put_inference, put_parts, put_more}
use Rattle.wh_order_inference.specs.InferenceLimits.{FormFits, InferenceFits, PartsFit}
use Rattle.wh_order_text.specs.InferenceMachine.{Stack, outside, inside, Place, wanted, place_wanted, placed, list_wanted, begun, behind, Step, goes, ended, nowhere, level, add_part, letter_at, behind_letter, begin, opening, behind_inference, step, read, scan}

-- what a place has read, with r behind it

-- finished parts, a comma behind each
abbrev pub put_later : Inferences → List ℕ → List ℕ
put_later no_parts r = r
put_later (more_parts i is) r = put_inference i (44 ∷ put_later is r)

-- a letter, what its place is, and `(`
abbrev pub put_open : Letter → ℕ → List ℕ → List ℕ
put_open l n r = sign l ∷ put_place (form l) n (40 ∷ r)

abbrev pub front : Stack → List ℕ → List ℕ
front outside r = r
front (inside l n is fs) r = front fs (put_open l n (put_later is r))

abbrev pub seen : Stack → Place → List ℕ → List ℕ
seen fs wanted r = front fs r
seen fs (place_wanted l) r = front fs (sign l ∷ r)
seen fs (placed l n) r = front fs (sign l ∷ (decimal n ++ r))
seen fs (list_wanted l) r = front fs (sign l ∷ r)
seen fs (begun l n) r = front fs (put_open l n r)
seen fs (behind i) r = front fs (put_inference i r)

-- what is read so far is within the limits

-- a letter that parts follow, with its place
abbrev pub Opens : Form → ℕ → Type 0
Opens alone n = ⊥
Opens with_parts n = n ≡ 0
Opens with_place n = n ≤ 65535

abbrev pub GoodStack : Stack → Type 0
GoodStack outside = Unit {0}
GoodStack (inside l n is fs) = (level fs < 64) × Opens (form l) n × PartsFit (suc (level fs)) is × GoodStack fs

abbrev pub GoodPlace : Stack → Place → Type 0
GoodPlace fs wanted = level fs < 64
GoodPlace fs (place_wanted l) = (level fs < 64) × (form l ≡ with_place)
GoodPlace fs (placed l n) = (level fs < 64) × (form l ≡ with_place) × (n ≤ 65535)
GoodPlace fs (list_wanted l) = (level fs < 64) × (form l ≡ with_parts)
GoodPlace fs (begun l n) = (level fs < 64) × Opens (form l) n
GoodPlace fs (behind i) = InferenceFits (level fs) i

-- the step leads to a good place that has read f
abbrev pub Next : Step → (List ℕ → List ℕ) → Type 0
Next (goes fs k) f = GoodStack fs × GoodPlace fs k × ((r : List ℕ) → seen fs k r ≡ f r)
Next (ended i b) f = InferenceFits 0 i × ((r : List ℕ) → put_inference i (b ∷ r) ≡ f r)
Next nowhere f = Unit {0}

if_just : (b c : ℕ) (s o : Step) (f : List ℕ → List ℕ) → Next s (λ r. f (c ∷ r)) → Next o (λ r. f (b ∷ r)) → Next (cond (b == c) s o) (λ r. f (b ∷ r))
if_just b c s o f so other =
    cond_both (b == c) s o (λ t. Next t (λ r. f (b ∷ r)))
    (λ e. subst (λ (x : ℕ). Next s (λ r. f (x ∷ r))) (sym (eqb-true b c e)) so)
    (λ e. other)

if_so : (t : Bool) (s o : Step) (f : List ℕ → List ℕ) → (t ≡ true → Next s f) → Next o f → Next (cond t s o) f
if_so t s o f so other = cond_both t s o (λ u. Next u f) so (λ e. other)

next_same : (s : Step) (f g : List ℕ → List ℕ) → ((r : List ℕ) → f r ≡ g r) → Next s f → Next s g
next_same (goes fs k) f g same n = (n.0, n.1, λ r. n.2 r ∙ same r)
next_same (ended i b) f g same n = (n.0, λ r. n.1 r ∙ same r)
next_same nowhere f g same n = tt

-- a byte that is a letter is its sign

abbrev Says : ℕ → Option Letter → Type 0
Says b (Some l) = sign l ≡ b
Says b None = Unit {0}

says : (b c : ℕ) (l : Letter) (o : Option Letter) → sign l ≡ c → Says b o → Says b (cond (b == c) (Some l) o)
says b c l o is other = cond_both (b == c) (Some l) o (Says b) (λ e. is ∙ sym (eqb-true b c e)) (λ e. other)

letter_says : (b : ℕ) → Says b (letter_at b)
letter_says b =
    says b 61 same_trees _ refl (says b 108 bodies _ refl (says b 109 arguments _ refl (says b 115 part _ refl (says b 112 lower _ refl
    (says b 120 first_less _ refl (says b 97 spine_parts _ refl (says b 98 body _ refl (says b 118 variable _ refl (says b 122 meta_part _ refl tt)))))))))

-- one more part

later_adds : (is : Inferences) (i : Inference) (r : List ℕ) → put_later (add_part is i) r ≡ put_later is (put_inference i (44 ∷ r))
later_adds no_parts i r = refl
later_adds (more_parts j is) i r = ap (λ (s : List ℕ). put_inference j (44 ∷ s)) (later_adds is i r)

more_adds : (is : Inferences) (i : Inference) (r : List ℕ) → put_more (add_part is i) r ≡ 44 ∷ put_later is (put_inference i (41 ∷ r))
more_adds no_parts i r = refl
more_adds (more_parts j is) i r = ap (λ (s : List ℕ). 44 ∷ put_inference j s) (more_adds is i r)

parts_add : (is : Inferences) (i : Inference) (r : List ℕ) → put_parts (add_part is i) r ≡ put_later is (put_inference i (41 ∷ r))
parts_add no_parts i r = refl
parts_add (more_parts j is) i r = ap (λ (s : List ℕ). put_inference j s) (more_adds is i r)

part_fits : (k : ℕ) (is : Inferences) (i : Inference) → PartsFit k is → InferenceFits k i → PartsFit k (add_part is i)
part_fits k no_parts i h fits = (fits, tt)
part_fits k (more_parts j is) i h fits = (h.0, part_fits k is i h.1 fits)

-- a letter that parts follow fits with any parts, and they are written
opens_fits : (f : Form) (n : ℕ) (is : Inferences) → Opens f n → FormFits f n is
opens_fits alone n is h = absurd h
opens_fits with_parts n is h = h
opens_fits with_place n is h = h

opens_listed : (f : Form) (n : ℕ) (ps r : List ℕ) → Opens f n → put_listed f ps r ≡ 40 ∷ ps
opens_listed alone n ps r h = absurd h
opens_listed with_parts n ps r h = refl
opens_listed with_place n ps r h = refl

-- the text of an inference with parts, up to these
whole_put : (l : Letter) (n : ℕ) (is : Inferences) (r : List ℕ) → Opens (form l) n → put_inference (infer l n is) r ≡ put_open l n (put_parts is r)
whole_put l n is r h = ap (λ (s : List ℕ). sign l ∷ put_place (form l) n s) (opens_listed (form l) n (put_parts is r) r h)

-- each step keeps: the place has read the bytes that led to it

letter_kept : (f : Form) (fs : Stack) (l : Letter) → form l ≡ f → GoodStack fs → level fs < 64 → Next (behind_letter f fs l) (λ r. front fs (sign l ∷ r))
letter_kept alone fs l e g low =
    (g, (low, subst (λ (f : Form). FormFits f 0 no_parts) (sym e) (refl, refl), tt), λ r. ap (λ (f : Form). front fs (sign l ∷ put_place f 0 (put_listed f (41 ∷ r) r))) e)
letter_kept with_parts fs l e g low = (g, (low, e), λ r. refl)
letter_kept with_place fs l e g low = (g, (low, e), λ r. refl)

begin_kept : (fs : Stack) (b : ℕ) (o : Option Letter) → Says b o → GoodStack fs → level fs < 64 → Next (begin fs o) (λ r. front fs (b ∷ r))
begin_kept fs b None says g low = tt
begin_kept fs b (Some l) says g low =
    subst (λ (x : ℕ). Next (behind_letter (form l) fs l) (λ r. front fs (x ∷ r))) says (letter_kept (form l) fs l refl g low)

open_kept : (fs : Stack) (l : Letter) (n b : ℕ) (f : List ℕ → List ℕ) → GoodStack fs → level fs < 64 → Opens (form l) n → ((r : List ℕ) → front fs (put_open l n r) ≡ f (40 ∷ r)) → Next (opening fs l n b) (λ r. f (b ∷ r))
open_kept fs l n b f g low opens same = if_just b 40 (goes fs (begun l n)) nowhere f (g, (low, opens), same) tt

fits_below : (k : ℕ) (i : Inference) → InferenceFits k i → k < 64
fits_below k (infer l n is) h = h.0

behind_kept : (fs : Stack) (i : Inference) (b : ℕ) → GoodStack fs → InferenceFits (level fs) i → Next (behind_inference fs i b) (λ r. front fs (put_inference i (b ∷ r)))
behind_kept outside i b g fits = (fits, λ r. refl)
behind_kept (inside l n is fs) i b g fits =
    let more = part_fits (suc (level fs)) is i g.2 fits in
    if_just b 44 (goes (inside l n (add_part is i) fs) wanted) _ (λ r. front (inside l n is fs) (put_inference i r))
    ((g.0, g.1, more, g.3), fits_below (suc (level fs)) i fits, λ r. ap (λ (s : List ℕ). front fs (put_open l n s)) (later_adds is i r))
    (if_just b 41 (goes fs (behind (infer l n (add_part is i)))) nowhere (λ r. front (inside l n is fs) (put_inference i r))
    (g.3, (g.0, opens_fits (form l) n (add_part is i) g.1, more), λ r. ap (front fs) (whole_put l n (add_part is i) r g.1 ∙ ap (put_open l n) (parts_add is i r)))
    tt)

placed_same : (f : Form) (n : ℕ) (r : List ℕ) → f ≡ with_place → put_place f n r ≡ decimal n ++ r
placed_same f n r e = ap (λ (g : Form). put_place g n r) e

pub kept : (fs : Stack) (k : Place) (b : ℕ) → GoodStack fs → GoodPlace fs k → Next (step fs k b) (λ r. seen fs k (b ∷ r))
kept fs wanted b g low = begin_kept fs b (letter_at b) (letter_says b) g low
kept fs (place_wanted l) b g p =
    if_so (is_digit b) (goes fs (placed l (b - 48))) nowhere (λ r. seen fs (place_wanted l) (b ∷ r))
    (λ e. (g, (p.0, p.1, first_digit_small b e), λ r. ap (λ (s : List ℕ). front fs (sign l ∷ s)) (first_digit_spelled b r e)))
    tt
kept fs (placed l n) b g p =
    if_so (goes_on n b) (goes fs (placed l (10 * n + (b - 48)))) _ (λ r. seen fs (placed l n) (b ∷ r))
    (λ e. (g, (p.0, p.1, (goes_on_true n b e).fits), λ r. ap (λ (s : List ℕ). front fs (sign l ∷ s)) (next_digit_spelled n b r e)))
    (open_kept fs l n b (seen fs (placed l n)) g p.0 (subst (λ (f : Form). Opens f n) (sym p.1) p.2) (λ r. ap (λ (s : List ℕ). front fs (sign l ∷ s)) (placed_same (form l) n (40 ∷ r) p.1)))
kept fs (list_wanted l) b g p =
    open_kept fs l 0 b (seen fs (list_wanted l)) g p.0 (subst (λ (f : Form). Opens f 0) (sym p.1) refl) (λ r. ap (λ (f : Form). front fs (sign l ∷ put_place f 0 (40 ∷ r))) p.1)
kept fs (begun l n) b g p =
    if_just b 41 (goes fs (behind (infer l n no_parts))) _ (seen fs (begun l n))
    (g, (p.0, opens_fits (form l) n no_parts p.1, tt), λ r. ap (front fs) (whole_put l n no_parts r p.1))
    (if_so (ltb (suc (level fs)) 64) (begin (inside l n no_parts fs) (letter_at b)) nowhere (λ r. seen fs (begun l n) (b ∷ r))
    (λ e. begin_kept (inside l n no_parts fs) b (letter_at b) (letter_says b) (p.0, p.1, tt, g) (ltb-true (suc (level fs)) 64 e))
    tt)
kept fs (behind i) b g fits = behind_kept fs i b g fits

-- what was read is spelled

pub sound : (s : Step) (w : List ℕ) (f : List ℕ → List ℕ) (i : Inference) (r : List ℕ) → Next s f → scan s w ≡ read i r → InferenceFits 0 i × (put_inference i r ≡ f w)
sound (ended j b) w f i r n e =
    let same : j ≡ i = cc in
    let rest : b ∷ w ≡ r = cc in
    (subst (InferenceFits 0) same n.0, sym (ap (put_inference j) rest ∙ ap (λ (o : Inference). put_inference o r) same) ∙ n.1 w)
sound nowhere w f i r n e = absurd cc
sound (goes fs k) [] f i r n e = absurd cc
sound (goes fs k) (b ∷ w) f i r n e =
    sound (step fs k b) w (λ q. f (b ∷ q)) i r (next_same (step fs k b) (λ q. seen fs k (b ∷ q)) (λ q. f (b ∷ q)) (λ q. n.2 (b ∷ q)) (kept fs k b n.0 n.1)) e
