-- What the reader of the lines of a node of a path order has read is spelled: each step keeps what a place has read, and that it is
-- within the limits.
use Rattle.std.proofs.Common.{◌≡◌, ℕ, suc, ◌+◌, ◌-◌, ◌<◌, ◌≤◌, Bool, true, cond, ◌==◌, ◌&&◌, nat_lt, List, [], ◌∷◌, ◌++◌, length, take, codes, refl, sym, ap, ◌∙◌, subst, arith, append_assoc, append-nil, length-append}
use Rattle.std.specs.List.{All}
use Rattle.std.proofs.lemmas.Bool.{eqb-true, cond_both}
use Rattle.std.proofs.lemmas.List.Elements.{All-nil, All-push, All-weaker}
use Rattle.std.proofs.Math.Seq.{take-append_seam}
use Rattle.std.specs.Fmt.{decimal}
use Rattle.wh_text.specs.Chars.{is_start, is_part}
use Rattle.wh_text.specs.Words.{IsWord}
use Rattle.wh_cert_letters.proofs.NamesAndNumbers.{first_letter, next_letter}
use Rattle.wh_order_inference.specs.Inferences.{Inference, entries}
use Rattle.wh_order_inference.specs.InferenceText.{put_inference}
use Rattle.wh_order_inference.specs.InferenceLimits.{InferenceFits}
use Rattle.wh_order_inference.specs.FilterText.{WrittenFilter, keeps, picks, put_places, put_filter}
use Rattle.wh_order_text.specs.FilterMachine as f
use Rattle.wh_order_text.specs.InferenceMachine as i
use Rattle.wh_order_text.proofs.FilterSound as filters
use Rattle.wh_order_text.proofs.InferenceSound as inferences
use Rattle.wh_order_text.proofs.InferenceSound.{seen, GoodStack, GoodPlace}
use Rattle.wh_order_text.proofs.InferenceWhole.{long_inference}
use Rattle.wh_cert.specs.Written.{Filtering}
use Rattle.wh_cert.specs.Text.{put_filtering, put_filterings, put_shown, put_all_shown}
use Rattle.wh_cert.specs.Limits.{FilteringFits, FilterWithin}
use Rattle.wh_cert_lines.proofs.SectionsLaws as sections
use Rattle.wh_cert_lines.proofs.SectionsLaws.{TakesNamed, TakesShown}
use Rattle.wh_cert_lines.specs.OrderLines.{Lines, in_funs, in_marks, in_rules, in_pairs, LinesPlace, lines_front, name_wanted, name, in_filter, space_wanted, in_inference, LinesStep, on, begins, drops, refused, line_first, line_begun, add_named, add_shown, first_step, filter_led, inference_led, lines_step}

-- how lists of lines are spelled; a space stands behind the word of a line of an inference
abbrev pub spelling : sections.Spelling Filtering Inference
spelling = record { named = put_filterings; shown = λ w is r. put_all_shown (w ++ codes " ") is r; no_named = λ w r. refl; no_shown = λ w r. refl }

-- what was read, with r behind it

abbrev pub put_lines : Lines → List ℕ → List ℕ
put_lines x r = sections.put_lines spelling x r

-- the lines so far and the word of the present one
abbrev pub put_begun : Lines → List ℕ → List ℕ
put_begun x r = sections.put_begun spelling x r

-- what was read of a word, where this is left of it
abbrev pub word_seen : List ℕ → List ℕ → List ℕ
word_seen whole left = take (length whole - length left) whole

abbrev pub filter_seen : f.Place → List ℕ → List ℕ
filter_seen f.wanted r = r
filter_seen (f.word left w) r = word_seen (f.spelling w) left ++ r
filter_seen f.prec_wanted r = codes "keep " ++ r
filter_seen (f.prec n) r = codes "keep " ++ (decimal n ++ r)
filter_seen (f.place_wanted p ns) r = codes "keep " ++ (decimal p ++ put_places ns (32 ∷ r))
filter_seen (f.place p ns n) r = codes "keep " ++ (decimal p ++ put_places ns (32 ∷ (decimal n ++ r)))
filter_seen f.pick_wanted r = codes "pick " ++ r
filter_seen (f.picked n) r = codes "pick " ++ (decimal n ++ r)

abbrev pub lines_seen : Lines → LinesPlace → List ℕ → List ℕ
lines_seen x lines_front r = put_lines x r
lines_seen x name_wanted r = put_begun x r
lines_seen x (name xs) r = put_begun x (xs ++ r)
lines_seen x (in_filter xs k) r = put_begun x (xs ++ (32 ∷ filter_seen k r))
lines_seen x space_wanted r = put_begun x r
lines_seen x (in_inference fs k) r = put_begun x (32 ∷ seen fs k r)

-- one more at the end of a list

filterings_add : (w : List ℕ) (fs : List Filtering) (g : Filtering) (r : List ℕ) → put_filterings w (fs ++ g ∷ []) r ≡ put_filterings w fs (put_filtering w g r)
filterings_add w [] g r = refl
filterings_add w (h ∷ fs) g r = ap (put_filtering w h) (filterings_add w fs g r)

shown_add : (w : List ℕ) (is : List Inference) (j : Inference) (r : List ℕ) → put_all_shown w (is ++ j ∷ []) r ≡ put_all_shown w is (put_shown w j r)
shown_add w [] j r = refl
shown_add w (h ∷ is) j r = ap (put_shown w h) (shown_add w is j r)

filter_text : (x : Lines) (g : Filtering) (r : List ℕ) → TakesNamed x → put_lines (add_named x g) r ≡ put_begun x (g.name ++ (32 ∷ put_filter g.filter (10 ∷ r)))
filter_text (in_funs funs) g r t = filterings_add (codes "fun ") funs g r
filter_text (in_marks funs marks) g r t = ap (put_filterings (codes "fun ") funs) (filterings_add (codes "mark ") marks g r)
filter_text (in_rules funs marks rules) g r t = absurd t
filter_text (in_pairs funs marks rules pairs) g r t = absurd t

inference_text : (x : Lines) (j : Inference) (r : List ℕ) → TakesShown x → put_lines (add_shown x j) r ≡ put_begun x (32 ∷ put_inference j (10 ∷ r))
inference_text (in_funs funs) j r t = absurd t
inference_text (in_marks funs marks) j r t = absurd t
inference_text (in_rules funs marks rules) j r t =
    ap (λ (s : List ℕ). put_filterings (codes "fun ") funs (put_filterings (codes "mark ") marks s)) (shown_add (codes "rule ") rules j r)
inference_text (in_pairs funs marks rules pairs) j r t =
    ap (λ (s : List ℕ). put_filterings (codes "fun ") funs (put_filterings (codes "mark ") marks (put_all_shown (codes "rule ") rules s))) (shown_add (codes "pair ") pairs j r)

-- the limits, where n bytes were read since the last item

abbrev pub GoodFilterings : ℕ → List Filtering → Type 0
GoodFilterings n fs = All FilteringFits fs × All (λ (g : Filtering). FilterWithin n g.filter) fs × (length fs ≤ n)

abbrev pub GoodShown : ℕ → List Inference → Type 0
GoodShown n is = All (InferenceFits 0) is × All (λ (j : Inference). entries j < n) is × (length is ≤ n)

pub no_filterings : (n : ℕ) → GoodFilterings n []
no_filterings n = (All-nil FilteringFits, All-nil (λ (g : Filtering). FilterWithin n g.filter), omega arith)

pub no_inferences : (n : ℕ) → GoodShown n []
no_inferences n = (All-nil (InferenceFits 0), All-nil (λ (j : Inference). entries j < n), omega arith)

abbrev pub limits : sections.Limits Filtering Inference
limits = record { named = GoodFilterings; shown = GoodShown; no_named = no_filterings; no_shown = no_inferences }

abbrev pub GoodLines : ℕ → Lines → Type 0
GoodLines n x = sections.GoodLines limits n x

-- at most n bytes of a filter have led to the place
abbrev pub FilterRead : ℕ → f.Place → Type 0
FilterRead n k = (w : List ℕ) × (length w ≤ n) × filters.Good k (λ r. w ++ r)

-- fewer than n bytes of an inference have led there
abbrev pub InferenceRead : ℕ → i.Stack → i.Place → Type 0
InferenceRead n fs k = (w : List ℕ) × (length w < n) × GoodStack fs × GoodPlace fs k × ((r : List ℕ) → seen fs k r ≡ w ++ r)

abbrev pub GoodLinesPlace : ℕ → Lines → LinesPlace → Type 0
GoodLinesPlace n x lines_front = Unit {0}
GoodLinesPlace n x name_wanted = TakesNamed x
GoodLinesPlace n x (name xs) = TakesNamed x × IsWord xs
GoodLinesPlace n x (in_filter xs k) = TakesNamed x × IsWord xs × FilterRead n k
GoodLinesPlace n x space_wanted = TakesShown x × (0 < n)
GoodLinesPlace n x (in_inference fs k) = TakesShown x × InferenceRead n fs k

-- more bytes leave the limits good

within_wider : (n m : ℕ) (g : WrittenFilter) → n ≤ m → FilterWithin n g → FilterWithin m g
within_wider n m (keeps p ns) le h = omega (arith, h)
within_wider n m (picks k) le h = tt

filterings_wider : (n m : ℕ) (fs : List Filtering) → n ≤ m → GoodFilterings n fs → GoodFilterings m fs
filterings_wider n m fs le g =
    (g.0, All-weaker (λ (h : Filtering). FilterWithin n h.filter) (λ (h : Filtering). FilterWithin m h.filter) (λ h p. within_wider n m h.filter le p) fs g.1, omega (arith, g.2))

shown_wider : (n m : ℕ) (is : List Inference) → n ≤ m → GoodShown n is → GoodShown m is
shown_wider n m is le g =
    (g.0, All-weaker (λ (j : Inference). entries j < n) (λ (j : Inference). entries j < m) (λ j p. omega arith) is g.1, omega (arith, g.2))

pub lines_wider : (n m : ℕ) (x : Lines) → n ≤ m → GoodLines n x → GoodLines m x
lines_wider n m (in_funs funs) le g = filterings_wider n m funs le g
lines_wider n m (in_marks funs marks) le g = (filterings_wider n m funs le g.0, filterings_wider n m marks le g.1)
lines_wider n m (in_rules funs marks rules) le g =
    (filterings_wider n m funs le g.0, filterings_wider n m marks le g.1, shown_wider n m rules le g.2)
lines_wider n m (in_pairs funs marks rules pairs) le g =
    (filterings_wider n m funs le g.0, filterings_wider n m marks le g.1, shown_wider n m rules le g.2, shown_wider n m pairs le g.3)

-- one more of a kind

filter_pushed : (n : ℕ) (fs : List Filtering) (g : Filtering) → GoodFilterings n fs → FilteringFits g → FilterWithin n g.filter → GoodFilterings (suc n) (fs ++ g ∷ [])
filter_pushed n fs g good fits few =
    let wide = filterings_wider n (suc n) fs (omega arith) good in
    (All-push FilteringFits fs g good.0 fits, All-push (λ (h : Filtering). FilterWithin (suc n) h.filter) fs g wide.1 (within_wider n (suc n) g.filter (omega arith) few), omega (arith, length-append fs (g ∷ []), good.2))

shown_pushed : (n : ℕ) (is : List Inference) (j : Inference) → GoodShown n is → InferenceFits 0 j → entries j ≤ n → GoodShown (suc n) (is ++ j ∷ [])
shown_pushed n is j good fits few =
    let wide = shown_wider n (suc n) is (omega arith) good in
    (All-push (InferenceFits 0) is j good.0 fits, All-push (λ (h : Inference). entries h < suc n) is j wide.1 (omega (arith, few)), omega (arith, length-append is (j ∷ []), good.2))

pub filter_good : (n : ℕ) (x : Lines) (g : Filtering) → TakesNamed x → GoodLines n x → FilteringFits g → FilterWithin n g.filter → GoodLines (suc n) (add_named x g)
filter_good n (in_funs funs) g t good fits few = filter_pushed n funs g good fits few
filter_good n (in_marks funs marks) g t good fits few = (filterings_wider n (suc n) funs (omega arith) good.0, filter_pushed n marks g good.1 fits few)
filter_good n (in_rules funs marks rules) g t good fits few = absurd t
filter_good n (in_pairs funs marks rules pairs) g t good fits few = absurd t

pub inference_good : (n : ℕ) (x : Lines) (j : Inference) → TakesShown x → GoodLines n x → InferenceFits 0 j → entries j ≤ n → GoodLines (suc n) (add_shown x j)
inference_good n (in_funs funs) j t good fits few = absurd t
inference_good n (in_marks funs marks) j t good fits few = absurd t
inference_good n (in_rules funs marks rules) j t good fits few =
    (filterings_wider n (suc n) funs (omega arith) good.0, filterings_wider n (suc n) marks (omega arith) good.1, shown_pushed n rules j good.2 fits few)
inference_good n (in_pairs funs marks rules pairs) j t good fits few =
    (filterings_wider n (suc n) funs (omega arith) good.0, filterings_wider n (suc n) marks (omega arith) good.1, shown_wider n (suc n) rules (omega arith) good.2, shown_pushed n pairs j good.3 fits few)

-- after n bytes the step leads to good lines and a good place, which have read f
abbrev pub LinesNext : ℕ → LinesStep → (List ℕ → List ℕ) → Type 0
LinesNext n (on x k) f = GoodLines n x × GoodLinesPlace n x k × ((r : List ℕ) → lines_seen x k r ≡ f r)
LinesNext n (begins x) f = GoodLines n x × ((r : List ℕ) → put_lines x (line_first x ∷ r) ≡ f r)
LinesNext n (drops x) f = GoodLines n x × ((r : List ℕ) → put_lines x (100 ∷ r) ≡ f r)
LinesNext n refused f = Unit {0}

if_byte : (n b c : ℕ) (s o : LinesStep) (f : List ℕ → List ℕ) → LinesNext n s (λ r. f (c ∷ r)) → LinesNext n o (λ r. f (b ∷ r)) → LinesNext n (cond (b == c) s o) (λ r. f (b ∷ r))
if_byte n b c s o f so other =
    cond_both (b == c) s o (λ t. LinesNext n t (λ r. f (b ∷ r)))
    (λ e. subst (λ (x : ℕ). LinesNext n s (λ r. f (x ∷ r))) (sym (eqb-true b c e)) so)
    (λ e. other)

if_so : (n : ℕ) (t : Bool) (s o : LinesStep) (f : List ℕ → List ℕ) → (t ≡ true → LinesNext n s f) → LinesNext n o f → LinesNext n (cond t s o) f
if_so n t s o f so other = cond_both t s o (λ u. LinesNext n u f) so (λ e. other)

next_same : (n : ℕ) (s : LinesStep) (f g : List ℕ → List ℕ) → ((r : List ℕ) → f r ≡ g r) → LinesNext n s f → LinesNext n s g
next_same n (on x k) f g same h = (h.0, h.1, λ r. h.2 r ∙ same r)
next_same n (begins x) f g same h = (h.0, λ r. h.1 r ∙ same r)
next_same n (drops x) f g same h = (h.0, λ r. h.1 r ∙ same r)
next_same n refused f g same h = tt

-- the first byte of a line

first_next : (n : ℕ) (s : LinesStep) (f : List ℕ → List ℕ) → sections.FirstNext spelling limits n s f → LinesNext n s f
first_next n (on x k) f h = absurd h
first_next n (begins x) f h = h
first_next n (drops x) f h = h
first_next n refused f h = tt

first_kept : (n : ℕ) (x : Lines) (b : ℕ) → GoodLines n x → LinesNext n (first_step x b) (λ r. put_lines x (b ∷ r))
first_kept n x b g = first_next n (first_step x b) (λ r. put_lines x (b ∷ r)) (sections.first_kept LinesPlace spelling limits n x b g)

-- names

name_kept : (n : ℕ) (x : Lines) (xs : List ℕ) (b : ℕ) → GoodLines n x → TakesNamed x → IsWord xs → LinesNext (suc n) (lines_step x (name xs) b) (λ r. lines_seen x (name xs) (b ∷ r))
name_kept n x xs b g t word =
    let wide = lines_wider n (suc n) x (omega arith) g in
    if_so (suc n) (is_part b && nat_lt (length xs) 64) (on x (name (xs ++ b ∷ []))) _ (λ r. lines_seen x (name xs) (b ∷ r))
    (λ e. (wide, (t, next_letter xs b word e), λ r. ap (put_begun x) (append_assoc xs (b ∷ []) r)))
    (if_byte (suc n) b 32 (on x (in_filter xs f.wanted)) refused (lines_seen x (name xs)) (wide, (t, word, ([], omega arith, λ r. refl)), λ r. refl) tt)

-- filters

-- what was read of a word, where w was read
word_read : (whole w left : List ℕ) → whole ++ [] ≡ w ++ (left ++ []) → word_seen whole left ≡ w
word_read whole w left e =
    let same : whole ≡ w ++ left = sym (append-nil whole) ∙ e ∙ ap (λ (s : List ℕ). w ++ s) (append-nil left) in
    let long : length whole - length left ≡ length w = omega (arith, ap (λ (s : List ℕ). length s) same, length-append w left) in
    ap (λ (n : ℕ). take n whole) long ∙ ap (λ (s : List ℕ). take (length w) s) same ∙ take-append_seam w left

seen_is : (k : f.Place) (w : List ℕ) → filters.Good k (λ r. w ++ r) → (r : List ℕ) → filter_seen k r ≡ w ++ r
seen_is f.wanted w g r = g r
seen_is (f.word [] v) w g r = absurd g
seen_is (f.word (x ∷ xs) v) w g r = ap (λ (s : List ℕ). s ++ r) (word_read (f.spelling v) w (x ∷ xs) (g []))
seen_is f.prec_wanted w g r = g r
seen_is (f.prec n) w g r = g.1 r
seen_is (f.place_wanted p ns) w g r = g.2 r
seen_is (f.place p ns n) w g r = g.3 r
seen_is f.pick_wanted w g r = g r
seen_is (f.picked n) w g r = g.1 r

good_same : (k : f.Place) (g h : List ℕ → List ℕ) → ((r : List ℕ) → g r ≡ h r) → filters.Good k g → filters.Good k h
good_same f.wanted g h same p = λ r. p r ∙ same r
good_same (f.word [] v) g h same p = absurd p
good_same (f.word (x ∷ xs) v) g h same p = λ r. p r ∙ same (x ∷ (xs ++ r))
good_same f.prec_wanted g h same p = λ r. p r ∙ same r
good_same (f.prec n) g h same p = (p.0, λ r. p.1 r ∙ same r)
good_same (f.place_wanted q ns) g h same p = (p.0, p.1, λ r. p.2 r ∙ same r)
good_same (f.place q ns n) g h same p = (p.0, p.1, p.2, λ r. p.3 r ∙ same r)
good_same f.pick_wanted g h same p = λ r. p r ∙ same r
good_same (f.picked n) g h same p = (p.0, λ r. p.1 r ∙ same r)

pub long_places : (ns r : List ℕ) → length ns + length r ≤ length (put_places ns r)
long_places [] r = omega arith
long_places (n ∷ ns) r = omega (arith, long_places ns r, length-append (decimal n) (put_places ns r))

-- a filter keeps no more places than its text has bytes
few_places : (n : ℕ) (g : WrittenFilter) (c b : ℕ) (w : List ℕ) → put_filter g (c ∷ []) ≡ w ++ b ∷ [] → length w ≤ n → FilterWithin n g
few_places n (keeps p ns) c b w e short =
    omega (arith, long_places ns (c ∷ []), length-append (decimal p) (put_places ns (c ∷ [])), ap (λ (s : List ℕ). length s) e, length-append w (b ∷ []), short)
few_places n (picks k) c b w e short = tt

filter_led_kept : (n : ℕ) (x : Lines) (xs : List ℕ) (b : ℕ) (w : List ℕ) (s : f.Step) → GoodLines n x → TakesNamed x → IsWord xs → length w ≤ n → filters.Next s (λ r. w ++ (b ∷ r)) → LinesNext (suc n) (filter_led x xs s) (λ r. put_begun x (xs ++ (32 ∷ (w ++ (b ∷ r)))))
filter_led_kept n x xs b w (f.goes k) g t word short next =
    let more : List ℕ = w ++ b ∷ [] in
    let read = good_same k (λ r. w ++ (b ∷ r)) (λ r. more ++ r) (λ r. sym (append_assoc w (b ∷ []) r)) next in
    (lines_wider n (suc n) x (omega arith) g, (t, word, (more, omega (arith, length-append w (b ∷ []), short), read)), λ r. ap (λ (s : List ℕ). put_begun x (xs ++ (32 ∷ s))) (seen_is k more read r ∙ append_assoc w (b ∷ []) r))
filter_led_kept n x xs b w (f.ended h c) g t word short next =
    let item : Filtering = record { name = xs; filter = h } in
    next_same (suc n) (cond (c == 10) (on (add_named x item) lines_front) refused) (λ r. put_begun x (xs ++ (32 ∷ put_filter h (c ∷ r)))) (λ r. put_begun x (xs ++ (32 ∷ (w ++ (b ∷ r)))))
    (λ r. ap (λ (s : List ℕ). put_begun x (xs ++ (32 ∷ s))) (next.1 r))
    (if_byte (suc n) c 10 (on (add_named x item) lines_front) refused (λ r. put_begun x (xs ++ (32 ∷ put_filter h r)))
    (filter_good n x item t g (record { name = word; filter = next.0 }) (few_places n h c b w (next.1 []) short), tt, λ r. filter_text x item r t)
    tt)
filter_led_kept n x xs b w f.nowhere g t word short next = tt

filter_kept : (n : ℕ) (x : Lines) (xs : List ℕ) (k : f.Place) (b : ℕ) → GoodLines n x → TakesNamed x → IsWord xs → FilterRead n k → LinesNext (suc n) (lines_step x (in_filter xs k) b) (λ r. lines_seen x (in_filter xs k) (b ∷ r))
filter_kept n x xs k b g t word p =
    next_same (suc n) (filter_led x xs (f.step k b)) (λ r. put_begun x (xs ++ (32 ∷ (p.0 ++ (b ∷ r))))) (λ r. lines_seen x (in_filter xs k) (b ∷ r))
    (λ r. ap (λ (s : List ℕ). put_begun x (xs ++ (32 ∷ s))) (sym (seen_is k p.0 p.2 (b ∷ r))))
    (filter_led_kept n x xs b p.0 (f.step k b) g t word p.1 (filters.kept k b (λ r. p.0 ++ r) p.2))

-- inferences

-- an inference has no more inferences in it than its text has bytes
few_entries : (n : ℕ) (j : Inference) (c b : ℕ) (w : List ℕ) → InferenceFits 0 j → put_inference j (c ∷ []) ≡ w ++ b ∷ [] → length w < n → entries j ≤ n
few_entries n j c b w fits e short =
    omega (arith, long_inference 0 j (c ∷ []) fits, ap (λ (s : List ℕ). length s) e, length-append w (b ∷ []), short)

inference_led_kept : (n : ℕ) (x : Lines) (b : ℕ) (w : List ℕ) (s : i.Step) (f : List ℕ → List ℕ) → GoodLines n x → TakesShown x → length w < n → ((r : List ℕ) → f r ≡ w ++ (b ∷ r)) → inferences.Next s f → LinesNext (suc n) (inference_led x s) (λ r. put_begun x (32 ∷ f r))
inference_led_kept n x b w (i.goes fs k) f g t short same next =
    let more : List ℕ = w ++ b ∷ [] in
    (lines_wider n (suc n) x (omega arith) g, (t, (more, omega (arith, length-append w (b ∷ []), short), next.0, next.1, λ r. next.2 r ∙ same r ∙ sym (append_assoc w (b ∷ []) r))), λ r. ap (λ (s : List ℕ). put_begun x (32 ∷ s)) (next.2 r))
inference_led_kept n x b w (i.ended j c) f g t short same next =
    next_same (suc n) (cond (c == 10) (on (add_shown x j) lines_front) refused) (λ r. put_begun x (32 ∷ put_inference j (c ∷ r))) (λ r. put_begun x (32 ∷ f r))
    (λ r. ap (λ (s : List ℕ). put_begun x (32 ∷ s)) (next.1 r))
    (if_byte (suc n) c 10 (on (add_shown x j) lines_front) refused (λ r. put_begun x (32 ∷ put_inference j r))
    (inference_good n x j t g next.0 (few_entries n j c b w next.0 (next.1 [] ∙ same []) short), tt, λ r. inference_text x j r t)
    tt)
inference_led_kept n x b w i.nowhere f g t short same next = tt

-- each step

pub lines_kept : (n : ℕ) (x : Lines) (k : LinesPlace) (b : ℕ) → GoodLines n x → GoodLinesPlace n x k → LinesNext (suc n) (lines_step x k b) (λ r. lines_seen x k (b ∷ r))
lines_kept n x lines_front b g p = first_kept (suc n) x b (lines_wider n (suc n) x (omega arith) g)
lines_kept n x name_wanted b g p =
    if_so (suc n) (is_start b) (on x (name (b ∷ []))) refused (λ r. lines_seen x name_wanted (b ∷ r))
    (λ e. (lines_wider n (suc n) x (omega arith) g, (p, first_letter b e), λ r. refl)) tt
lines_kept n x (name xs) b g p = name_kept n x xs b g p.0 p.1
lines_kept n x (in_filter xs k) b g p = filter_kept n x xs k b g p.0 p.1 p.2
lines_kept n x space_wanted b g p =
    if_byte (suc n) b 32 (on x (in_inference i.outside i.wanted)) refused (lines_seen x space_wanted)
    (lines_wider n (suc n) x (omega arith) g, (p.0, ([], omega arith, tt, omega arith, λ r. refl)), λ r. refl) tt
lines_kept n x (in_inference fs k) b g p =
    let read = p.1 in
    inference_led_kept n x b read.0 (i.step fs k b) (λ r. seen fs k (b ∷ r)) g p.0 read.1 (λ r. read.4 (b ∷ r)) (inferences.kept fs k b read.2 read.3)

-- behind the word of a line

pub begun_good : (n : ℕ) (x : Lines) → 0 < n → GoodLinesPlace n x (line_begun x)
begun_good n (in_funs funs) some = tt
begun_good n (in_marks funs marks) some = tt
begun_good n (in_rules funs marks rules) some = (tt, some)
begun_good n (in_pairs funs marks rules pairs) some = (tt, some)

pub begun_text : (x : Lines) (r : List ℕ) → lines_seen x (line_begun x) r ≡ put_begun x r
begun_text (in_funs funs) r = refl
begun_text (in_marks funs marks) r = refl
begun_text (in_rules funs marks rules) r = refl
begun_text (in_pairs funs marks rules pairs) r = refl
