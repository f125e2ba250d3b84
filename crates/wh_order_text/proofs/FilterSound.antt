-- What the reader of filters has read is spelled, and is within the limits.
use Rattle.std.proofs.Common.{◌≡◌, ℕ, ◌+◌, ◌-◌, ◌*◌, ◌≤◌, Bool, true, cond, ◌==◌, All, List, [], ◌∷◌, ◌++◌, codes, refl, sym, ap, ◌∙◌, subst}
use Rattle.std.proofs.lemmas.Bool.{eqb-true, cond_both}
use Rattle.std.proofs.lemmas.List.Elements.{All-append, All-cons, All-nil}
use Rattle.std.specs.Fmt.{decimal}
use Rattle.wh_text.specs.Chars.{is_digit}
use Rattle.wh_cert_letters.specs.Digits.{goes_on}
use Rattle.wh_cert_letters.proofs.NamesAndNumbers.{goes_on_true, first_digit_spelled, first_digit_small, next_digit_spelled}
use Rattle.wh_order_inference.specs.FilterText.{keeps, put_places, put_filter, FilterFits}
use Rattle.wh_order_text.specs.FilterMachine.{Word, keep_word, pick_word, Place, wanted, word, prec_wanted, prec, place_wanted, place, pick_wanted, picked, Step, goes, ended, nowhere, spelling, word_on, behind_number, step, Scan, reading, read, failed, scan}

abbrev Small : ℕ → Type 0
Small n = n ≤ 65535

-- places, a space behind each but the last, with r behind them
places_add : (ns : List ℕ) (n : ℕ) (r : List ℕ) → put_places (ns ++ n ∷ []) r ≡ put_places ns (32 ∷ (decimal n ++ r))
places_add [] n r = refl
places_add (m ∷ ns) n r = ap (λ (s : List ℕ). 32 ∷ (decimal m ++ s)) (places_add ns n r)

all_add : (ns : List ℕ) (n : ℕ) → All Small ns → Small n → All Small (ns ++ n ∷ [])
all_add ns n h small = All-append Small ns (n ∷ []) h (All-cons Small n [] small (All-nil Small))

-- the place is reached by the bytes f, up to what comes behind them, and what is read so far is within the limits
abbrev pub Good : Place → (List ℕ → List ℕ) → Type 0
Good wanted f = (r : List ℕ) → r ≡ f r
Good (word [] w) f = ⊥
Good (word (x ∷ xs) w) f = (r : List ℕ) → spelling w ++ r ≡ f (x ∷ (xs ++ r))
Good prec_wanted f = (r : List ℕ) → codes "keep " ++ r ≡ f r
Good (prec n) f = Small n × ((r : List ℕ) → codes "keep " ++ (decimal n ++ r) ≡ f r)
Good (place_wanted p ns) f =
    Small p × All Small ns × ((r : List ℕ) → codes "keep " ++ (decimal p ++ put_places ns (32 ∷ r)) ≡ f r)
Good (place p ns n) f =
    Small p × All Small ns × Small n × ((r : List ℕ) → codes "keep " ++ (decimal p ++ put_places ns (32 ∷ (decimal n ++ r))) ≡ f r)
Good pick_wanted f = (r : List ℕ) → codes "pick " ++ r ≡ f r
Good (picked n) f = Small n × ((r : List ℕ) → codes "pick " ++ (decimal n ++ r) ≡ f r)

abbrev pub Next : Step → (List ℕ → List ℕ) → Type 0
Next (goes k) f = Good k f
Next (ended g b) f = FilterFits g × ((r : List ℕ) → put_filter g (b ∷ r) ≡ f r)
Next nowhere f = Unit {0}

if_just : (b c : ℕ) (s o : Step) (f : List ℕ → List ℕ) → Next s (λ r. f (c ∷ r)) → Next o (λ r. f (b ∷ r)) → Next (cond (b == c) s o) (λ r. f (b ∷ r))
if_just b c s o f so other =
    cond_both (b == c) s o (λ t. Next t (λ r. f (b ∷ r)))
    (λ e. subst (λ (x : ℕ). Next s (λ r. f (x ∷ r))) (sym (eqb-true b c e)) so)
    (λ e. other)

if_so : (t : Bool) (s o : Step) (f : List ℕ → List ℕ) → (t ≡ true → Next s f) → Next o f → Next (cond t s o) f
if_so t s o f so other = cond_both t s o (λ u. Next u f) so (λ e. other)

behind_kept : (p : ℕ) (ns : List ℕ) (b : ℕ) (f : List ℕ → List ℕ) → Small p → All Small ns → ((r : List ℕ) → codes "keep " ++ (decimal p ++ put_places ns r) ≡ f r) → Next (behind_number p ns b) (λ r. f (b ∷ r))
behind_kept p ns b f small all same =
    if_just b 32 (goes (place_wanted p ns)) (ended (keeps p ns) b) f (small, all, λ r. same (32 ∷ r)) ((small, all), λ r. same (b ∷ r))

word_kept : (x : ℕ) (xs : List ℕ) (w : Word) (f : List ℕ → List ℕ) → Good (word (x ∷ xs) w) f → Good (word_on xs w) (λ r. f (x ∷ r))
word_kept x [] keep_word f g = g
word_kept x [] pick_word f g = g
word_kept x (y ∷ xs) w f g = g

pub kept : (k : Place) (b : ℕ) (f : List ℕ → List ℕ) → Good k f → Next (step k b) (λ r. f (b ∷ r))
kept wanted b f g =
    if_just b 107 (goes (word (codes "eep ") keep_word)) _ f (λ r. g (codes "keep " ++ r))
    (if_just b 112 (goes (word (codes "ick ") pick_word)) nowhere f (λ r. g (codes "pick " ++ r)) tt)
kept (word [] w) b f g = tt
kept (word (x ∷ xs) w) b f g = if_just b x (goes (word_on xs w)) nowhere f (word_kept x xs w f g) tt
kept prec_wanted b f g =
    if_so (is_digit b) (goes (prec (b - 48))) nowhere (λ r. f (b ∷ r))
    (λ e. (first_digit_small b e, λ r. ap (λ (s : List ℕ). codes "keep " ++ s) (first_digit_spelled b r e) ∙ g (b ∷ r)))
    tt
kept (prec n) b f g =
    if_so (goes_on n b) (goes (prec (10 * n + (b - 48)))) _ (λ r. f (b ∷ r))
    (λ e. ((goes_on_true n b e).fits, λ r. ap (λ (s : List ℕ). codes "keep " ++ s) (next_digit_spelled n b r e) ∙ g.1 (b ∷ r)))
    (behind_kept n [] b f g.0 (All-nil Small) g.1)
kept (place_wanted p ns) b f g =
    if_so (is_digit b) (goes (place p ns (b - 48))) nowhere (λ r. f (b ∷ r))
    (λ e. (g.0, g.1, first_digit_small b e, λ r. ap (λ (s : List ℕ). codes "keep " ++ (decimal p ++ put_places ns (32 ∷ s))) (first_digit_spelled b r e) ∙ g.2 (b ∷ r)))
    tt
kept (place p ns n) b f g =
    if_so (goes_on n b) (goes (place p ns (10 * n + (b - 48)))) _ (λ r. f (b ∷ r))
    (λ e. (g.0, g.1, (goes_on_true n b e).fits, λ r. ap (λ (s : List ℕ). codes "keep " ++ (decimal p ++ put_places ns (32 ∷ s))) (next_digit_spelled n b r e) ∙ g.3 (b ∷ r)))
    (behind_kept p (ns ++ n ∷ []) b f g.0 (all_add ns n g.1 g.2) (λ r. ap (λ (s : List ℕ). codes "keep " ++ (decimal p ++ s)) (places_add ns n r) ∙ g.3 r))
kept pick_wanted b f g =
    if_so (is_digit b) (goes (picked (b - 48))) nowhere (λ r. f (b ∷ r))
    (λ e. (first_digit_small b e, λ r. ap (λ (s : List ℕ). codes "pick " ++ s) (first_digit_spelled b r e) ∙ g (b ∷ r)))
    tt
kept (picked n) b f g =
    if_so (goes_on n b) (goes (picked (10 * n + (b - 48)))) _ (λ r. f (b ∷ r))
    (λ e. ((goes_on_true n b e).fits, λ r. ap (λ (s : List ℕ). codes "pick " ++ s) (next_digit_spelled n b r e) ∙ g.1 (b ∷ r)))
    (g.0, λ r. g.1 (b ∷ r))

-- where a list of bytes leads from there
abbrev pub Reached : Scan → List ℕ → (List ℕ → List ℕ) → Type 0
Reached (reading k) w f = Good k (λ r. f (w ++ r))
Reached (read g r) w f = FilterFits g × (put_filter g r ≡ f w)
Reached failed w f = Unit {0}

further : (b : ℕ) (w : List ℕ) (f : List ℕ → List ℕ) (o : Scan) → Reached o w (λ r. f (b ∷ r)) → Reached o (b ∷ w) f
further b w f (reading k) h = h
further b w f (read g r) h = h
further b w f failed h = h

pub reached : (s : Step) (w : List ℕ) (f : List ℕ → List ℕ) → Next s f → Reached (scan s w) w f
reached (ended g b) w f n = (n.0, n.1 w)
reached nowhere w f n = tt
reached (goes k) [] f n = n
reached (goes k) (b ∷ w) f n = further b w f (scan (step k b) w) (reached (step k b) w (λ r. f (b ∷ r)) (kept k b f n))
