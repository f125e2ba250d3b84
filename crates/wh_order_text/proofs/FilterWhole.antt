-- A text of a filter is read; where bytes lead the reader of filters; and what follows of the texts of filters.
use Rattle.std.proofs.Common.{◌≡◌, ℕ, ◌+◌, ◌-◌, ◌*◌, ◌<◌, ◌≤◌, cond, ◌==◌, All, List, [], ◌∷◌, ◌++◌, codes, refl, sym, ap, ◌∙◌, subst, arith, append_assoc, append-nil}
use Rattle.std.proofs.lemmas.Bool.{eq-eqb, cond-true}
use Rattle.std.proofs.lemmas.List.Elements.{All-head, All-tail}
use Rattle.wh_text.specs.Chars.{is_digit}
use Rattle.wh_cert_letters.specs.Digits.{goes_on}
use Rattle.wh_cert_letters.proofs.NamesAndNumbers.{ReadsNumbers, number_run, is_digit_48, goes_on_48}
use Rattle.wh_order_inference.specs.FilterText.{WrittenFilter, keeps, picks, put_places, put_filter, FilterFits}
use Rattle.wh_order_text.specs.FilterMachine.{Word, keep_word, pick_word, Place, wanted, word, prec_wanted, prec, place_wanted, place, pick_wanted, picked, Step, goes, ended, nowhere, behind_word, behind_number, step, Scan, reading, read, failed, scan, start}
use Rattle.wh_order_text.specs.FiltersRead.{Led}
use Rattle.wh_order_text.proofs.FilterSound.{Good, Reached, reached}

-- numbers

digit_first : (k : Place) (at : ℕ → Place) (d : ℕ) (r : List ℕ) → d < 10 → step k (48 + d) ≡ cond (is_digit (48 + d)) (goes (at (48 + d - 48))) nowhere → scan (goes k) ((48 + d) ∷ r) ≡ scan (goes (at d)) r
digit_first k at d r low e =
    ap (λ (s : Step). scan s r) (e ∙ cond-true (is_digit (48 + d)) (goes (at (48 + d - 48))) nowhere (is_digit_48 d low)) ∙ ap (λ (n : ℕ). scan (goes (at n)) r) (omega arith)

digit_next : (at : ℕ → Place) (other : Step) (n d : ℕ) (r : List ℕ) → 0 < n → d < 10 → 10 * n + d ≤ 65535 → step (at n) (48 + d) ≡ cond (goes_on n (48 + d)) (goes (at (10 * n + (48 + d - 48)))) other → scan (goes (at n)) ((48 + d) ∷ r) ≡ scan (goes (at (10 * n + d))) r
digit_next at other n d r some below fits e =
    ap (λ (s : Step). scan s r) (e ∙ cond-true (goes_on n (48 + d)) (goes (at (10 * n + (48 + d - 48)))) other (goes_on_48 n d some below fits)) ∙ ap (λ (i : ℕ). scan (goes (at i)) r) (omega arith)

reads_prec : ReadsNumbers (λ (r : List ℕ). scan (goes prec_wanted) r) (λ (n : ℕ) (r : List ℕ). scan (goes (prec n)) r)
reads_prec = record {
  starts = λ d r low. digit_first prec_wanted prec d r low refl;
  goes = λ n d r some below fits. digit_next prec (behind_number n [] (48 + d)) n d r some below fits refl;
}

reads_place : (p : ℕ) (ns : List ℕ) → ReadsNumbers (λ (r : List ℕ). scan (goes (place_wanted p ns)) r) (λ (n : ℕ) (r : List ℕ). scan (goes (place p ns n)) r)
reads_place p ns = record {
  starts = λ d r low. digit_first (place_wanted p ns) (place p ns) d r low refl;
  goes = λ n d r some below fits. digit_next (place p ns) (behind_number p (ns ++ n ∷ []) (48 + d)) n d r some below fits refl;
}

reads_pick : ReadsNumbers (λ (r : List ℕ). scan (goes pick_wanted) r) (λ (n : ℕ) (r : List ℕ). scan (goes (picked n)) r)
reads_pick = record {
  starts = λ d r low. digit_first pick_wanted picked d r low refl;
  goes = λ n d r some below fits. digit_next picked (ended (picks n) (48 + d)) n d r some below fits refl;
}

-- a text is read

-- where the rest leads behind a number of a filter that keeps
abbrev behind_scan : ℕ → List ℕ → List ℕ → Scan
behind_scan p ns [] = failed
behind_scan p ns (b ∷ r) = scan (behind_number p ns b) r

prec_stops : (p : ℕ) (ns : List ℕ) (r : List ℕ) → scan (goes (prec p)) (put_places ns (10 ∷ r)) ≡ behind_scan p [] (put_places ns (10 ∷ r))
prec_stops p [] r = refl
prec_stops p (n ∷ ns) r = refl

place_stops : (p : ℕ) (done : List ℕ) (n : ℕ) (ns : List ℕ) (r : List ℕ) → scan (goes (place p done n)) (put_places ns (10 ∷ r)) ≡ behind_scan p (done ++ n ∷ []) (put_places ns (10 ∷ r))
place_stops p done n [] r = refl
place_stops p done n (m ∷ ns) r = refl

places_run : (p : ℕ) (done ns : List ℕ) (r : List ℕ) → All (λ n. n ≤ 65535) ns → behind_scan p done (put_places ns (10 ∷ r)) ≡ read (keeps p (done ++ ns)) (10 ∷ r)
places_run p done [] r h = ap (λ (ms : List ℕ). read (keeps p ms) (10 ∷ r)) (sym (append-nil done))
places_run p done (n ∷ ns) r h =
    number_run _ _ (reads_place p done) n (put_places ns (10 ∷ r)) (All-head (λ m. m ≤ 65535) n ns h)
    ∙ place_stops p done n ns r
    ∙ places_run p (done ++ n ∷ []) ns r (All-tail (λ m. m ≤ 65535) n ns h)
    ∙ ap (λ (ms : List ℕ). read (keeps p ms) (10 ∷ r)) (append_assoc done (n ∷ []) ns)

pub reads_filter : (f : WrittenFilter) (r : List ℕ) → FilterFits f → scan start (put_filter f (10 ∷ r)) ≡ read f (10 ∷ r)
reads_filter (keeps p ns) r h =
    number_run _ _ reads_prec p (put_places ns (10 ∷ r)) h.0 ∙ prec_stops p ns r ∙ places_run p [] ns r h.1
reads_filter (picks n) r h = number_run _ _ reads_pick n (10 ∷ r) h

-- every front can be ended

pub record Ends (k : Place) : Type 0 where
  pub tail : List ℕ
  pub f : WrittenFilter
  pub ends : scan (goes k) tail ≡ read f (10 ∷ [])

word_ends : (w : Word) → Ends (behind_word w)
word_ends keep_word = record { tail = 48 ∷ 10 ∷ []; f = keeps 0 []; ends = refl }
word_ends pick_word = record { tail = 48 ∷ 10 ∷ []; f = picks 0; ends = refl }

rest_ends : (x : ℕ) (xs : List ℕ) (w : Word) → Ends (word (x ∷ xs) w)
rest_ends x [] w =
    let behind = word_ends w in
    record { tail = x ∷ behind.tail; f = behind.f; ends = ap (λ (s : Step). scan s behind.tail) (cond-true (x == x) (goes (behind_word w)) nowhere (eq-eqb x x refl)) ∙ behind.ends }
rest_ends x (y ∷ xs) w =
    let behind = rest_ends y xs w in
    record { tail = x ∷ behind.tail; f = behind.f; ends = ap (λ (s : Step). scan s behind.tail) (cond-true (x == x) (goes (word (y ∷ xs) w)) nowhere (eq-eqb x x refl)) ∙ behind.ends }

place_ends : (k : Place) (f : List ℕ → List ℕ) → Good k f → Ends k
place_ends wanted f g = record { tail = codes "pick 0" ++ 10 ∷ []; f = picks 0; ends = refl }
place_ends (word [] w) f g = absurd g
place_ends (word (x ∷ xs) w) f g = rest_ends x xs w
place_ends prec_wanted f g = word_ends keep_word
place_ends (prec n) f g = record { tail = 10 ∷ []; f = keeps n []; ends = refl }
place_ends (place_wanted p ns) f g = record { tail = 48 ∷ 10 ∷ []; f = keeps p (ns ++ 0 ∷ []); ends = refl }
place_ends (place p ns n) f g = record { tail = 10 ∷ []; f = keeps p (ns ++ n ∷ []); ends = refl }
place_ends pick_wanted f g = word_ends pick_word
place_ends (picked n) f g = record { tail = 10 ∷ []; f = picks n; ends = refl }

-- bytes lead on from where those before led

goes_on_from : (s : Step) (p q : List ℕ) (k : Place) → scan s p ≡ reading k → scan s (p ++ q) ≡ scan (goes k) q
goes_on_from (ended g b) p q k e = absurd cc
goes_on_from nowhere p q k e = absurd cc
goes_on_from (goes h) [] q k e = let same : h ≡ k = cc in ap (λ (o : Place). scan (goes o) q) same
goes_on_from (goes h) (b ∷ p) q k e = goes_on_from (step h b) p q k e

failed_stays : (s : Step) (p q : List ℕ) → scan s p ≡ failed → scan s (p ++ q) ≡ failed
failed_stays (ended g b) p q e = absurd cc
failed_stays nowhere p q e = refl
failed_stays (goes k) [] q e = absurd cc
failed_stays (goes k) (b ∷ p) q e = failed_stays (step k b) p q e

not_read : (f : WrittenFilter) (r : List ℕ) → failed ≡ read f r → ⊥
not_read f r e = absurd cc

from_start : (p : List ℕ) (o : Scan) → scan start p ≡ o → Reached o p (λ r. r)
from_start p o e = subst (λ (x : Scan). Reached x p (λ r. r)) e (reached start p (λ r. r) (λ r. refl))

led_by : (p : List ℕ) (o : Scan) → scan start p ≡ o → Led o p
led_by p (reading k) e =
    let ends = place_ends k (λ r. p ++ r) (from_start p (reading k) e) in
    let whole = from_start (p ++ ends.tail) (read ends.f (10 ∷ [])) (goes_on_from start p ends.tail k e ∙ ends.ends) in
    (ends.f, ends.tail, whole.0, sym whole.1)
led_by p (read f r) e = let whole = from_start p (read f r) e in (whole.0, sym whole.1)
led_by p failed e = λ begins.
    let stuck : scan start (p ++ begins.1) ≡ failed = failed_stays start p begins.1 e in
    let through : scan start (p ++ begins.1) ≡ read begins.0 (10 ∷ []) = ap (scan start) begins.3 ∙ reads_filter begins.0 [] begins.2 in
    not_read begins.0 (10 ∷ []) (sym stuck ∙ through)

pub filter_led : (p : List ℕ) → Led (scan start p) p
filter_led p = led_by p (scan start p) refl

-- lines and filters determine one another
pub one_filter : (f g : WrittenFilter) (r s : List ℕ) → FilterFits f → FilterFits g → put_filter f (10 ∷ r) ≡ put_filter g (10 ∷ s) → (f ≡ g) × (r ≡ s)
one_filter f g r s fits also e =
    let same : read f (10 ∷ r) ≡ read g (10 ∷ s) = sym (reads_filter f r fits) ∙ ap (scan start) e ∙ reads_filter g s also in
    let first : f ≡ g = cc in
    let rest : r ≡ s = cc in
    (first, rest)
