-- What the reader of the lines of a node of interpretations has read is spelled: each step keeps what a place has read, and that
-- it is within the limits.
use Rattle.std.proofs.Common.{◌≡◌, ℕ, suc, ◌+◌, ◌-◌, ◌*◌, ◌<◌, ◌≤◌, Bool, true, cond, ◌==◌, ◌&&◌, nat_lt, List, [], ◌∷◌, ◌++◌, length, codes, refl, sym, ap, ◌∙◌, subst, arith, append_assoc, length-append}
use Rattle.std.specs.List.{All}
use Rattle.std.proofs.lemmas.Bool.{eqb-true, cond_both}
use Rattle.std.proofs.lemmas.List.Elements.{All-nil, All-push, All-weaker}
use Rattle.std.specs.Fmt.{decimal}
use Rattle.wh_hopoly.specs.declared.expression.Move as moved
use Rattle.wh_text.specs.Chars.{is_digit, is_start, is_part}
use Rattle.wh_text.specs.Words.{IsWord}
use Rattle.wh_cert_letters.specs.Digits.{goes_on, begins_big, goes_on_big}
use Rattle.wh_cert_letters.proofs.NamesAndNumbers.{first_letter, next_letter, first_digit_spelled, first_digit_small, goes_on_true, next_digit_spelled}
use Rattle.wh_cert.specs.PolyText.{put_poly}
use Rattle.wh_cert.specs.TermLimits.{IsSmall}
use Rattle.wh_cert.specs.PolyLimits.{IsBig}
use Rattle.wh_cert_parts.specs.PolyMachine.{outside, poly_wanted, PolyStep, goes, poly_ended, no_poly, poly_step}
use Rattle.wh_cert_parts.proofs.BigNumbers.{begins_big_spelled, first_big, next_big, next_big_spelled}
use Rattle.wh_cert_parts.proofs.PolyLaws.{poly_seen, GoodPolys, GoodPolyPlace, PolyNext, poly_kept}
use Rattle.wh_cert.specs.Interps.{Interp}
use Rattle.wh_cert.specs.Text.{put_interp, put_interps, put_move, put_moves, put_cover, put_covers}
use Rattle.wh_cert.specs.Limits.{InterpFits, MoveFits}
use Rattle.wh_cert_lines.proofs.SectionsLaws as sections
use Rattle.wh_cert_lines.proofs.SectionsLaws.{TakesNamed, TakesShown}
use Rattle.wh_cert_lines.specs.PolyLines.{Lines, in_funs, in_marks, in_rules, in_pairs, LinesPlace, lines_front, name_wanted, name, in_poly, moves, from_wanted, from, to_wanted, to, amount_wanted, amount, LinesStep, on, begins, drops, refused, line_first, line_begun, add_named, add_shown, first_step, poly_led, moves_step, add_move, lines_step}

-- how lists of lines are spelled
abbrev pub spelling : sections.Spelling Interp (List moved.Move)
spelling = record { named = put_interps; shown = put_covers; no_named = λ w r. refl; no_shown = λ w r. refl }

-- what was read, with r behind it

abbrev pub put_lines : Lines → List ℕ → List ℕ
put_lines x r = sections.put_lines spelling x r

-- the lines so far and the word of the present one
abbrev pub put_begun : Lines → List ℕ → List ℕ
put_begun x r = sections.put_begun spelling x r

abbrev pub lines_seen : Lines → LinesPlace → List ℕ → List ℕ
lines_seen x lines_front r = put_lines x r
lines_seen x name_wanted r = put_begun x r
lines_seen x (name xs) r = put_begun x (xs ++ r)
lines_seen x (in_poly xs fs k) r = put_begun x (xs ++ (32 ∷ poly_seen fs k r))
lines_seen x (moves ms) r = put_begun x (put_moves ms r)
lines_seen x (from_wanted ms) r = put_begun x (put_moves ms (32 ∷ r))
lines_seen x (from ms i) r = put_begun x (put_moves ms (32 ∷ (decimal i ++ r)))
lines_seen x (to_wanted ms i) r = put_begun x (put_moves ms (32 ∷ (decimal i ++ (62 ∷ r))))
lines_seen x (to ms i j) r = put_begun x (put_moves ms (32 ∷ (decimal i ++ (62 ∷ (decimal j ++ r)))))
lines_seen x (amount_wanted ms i j) r = put_begun x (put_moves ms (32 ∷ (decimal i ++ (62 ∷ (decimal j ++ (58 ∷ r))))))
lines_seen x (amount ms i j n) r =
    put_begun x (put_moves ms (32 ∷ (decimal i ++ (62 ∷ (decimal j ++ (58 ∷ (decimal n ++ r)))))))

-- one more at the end of a list

interps_add : (w : List ℕ) (is : List Interp) (i : Interp) (r : List ℕ) → put_interps w (is ++ i ∷ []) r ≡ put_interps w is (put_interp w i r)
interps_add w [] i r = refl
interps_add w (j ∷ is) i r = ap (put_interp w j) (interps_add w is i r)

covers_add : (w : List ℕ) (rs : List (List moved.Move)) (ms : List moved.Move) (r : List ℕ) → put_covers w (rs ++ ms ∷ []) r ≡ put_covers w rs (put_cover w ms r)
covers_add w [] ms r = refl
covers_add w (qs ∷ rs) ms r = ap (put_cover w qs) (covers_add w rs ms r)

moves_add : (ms : List moved.Move) (m : moved.Move) (r : List ℕ) → put_moves (ms ++ m ∷ []) r ≡ put_moves ms (put_move m r)
moves_add [] m r = refl
moves_add (l ∷ ms) m r = ap (put_move l) (moves_add ms m r)

interp_text : (x : Lines) (i : Interp) (r : List ℕ) → TakesNamed x → put_lines (add_named x i) r ≡ put_begun x (i.name ++ (32 ∷ put_poly i.poly (10 ∷ r)))
interp_text (in_funs funs) i r t = interps_add (codes "fun ") funs i r
interp_text (in_marks funs marks) i r t = ap (put_interps (codes "fun ") funs) (interps_add (codes "mark ") marks i r)
interp_text (in_rules funs marks rules) i r t = absurd t
interp_text (in_pairs funs marks rules pairs) i r t = absurd t

cover_text : (x : Lines) (ms : List moved.Move) (r : List ℕ) → TakesShown x → put_lines (add_shown x ms) r ≡ put_begun x (put_moves ms (10 ∷ r))
cover_text (in_funs funs) ms r t = absurd t
cover_text (in_marks funs marks) ms r t = absurd t
cover_text (in_rules funs marks rules) ms r t =
    ap (λ (s : List ℕ). put_interps (codes "fun ") funs (put_interps (codes "mark ") marks s)) (covers_add (codes "rule") rules ms r)
cover_text (in_pairs funs marks rules pairs) ms r t =
    ap (λ (s : List ℕ). put_interps (codes "fun ") funs (put_interps (codes "mark ") marks (put_covers (codes "rule") rules s))) (covers_add (codes "pair") pairs ms r)

-- the limits, where n bytes were read since the last item

abbrev pub GoodInterps : ℕ → List Interp → Type 0
GoodInterps n is = All InterpFits is × (length is ≤ n)

abbrev pub GoodMoves : ℕ → List moved.Move → Type 0
GoodMoves n ms = All MoveFits ms × (length ms ≤ n)

abbrev pub GoodCovers : ℕ → List (List moved.Move) → Type 0
GoodCovers n rs = All (All MoveFits) rs × All (λ ms. length ms ≤ n) rs × (length rs ≤ n)

pub no_interps : (n : ℕ) → GoodInterps n []
no_interps n = (All-nil InterpFits, omega arith)

pub no_covers : (n : ℕ) → GoodCovers n []
no_covers n = (All-nil (All MoveFits), All-nil (λ (ms : List moved.Move). length ms ≤ n), omega arith)

abbrev pub limits : sections.Limits Interp (List moved.Move)
limits = record { named = GoodInterps; shown = GoodCovers; no_named = no_interps; no_shown = no_covers }

abbrev pub GoodLines : ℕ → Lines → Type 0
GoodLines n x = sections.GoodLines limits n x

abbrev pub GoodLinesPlace : ℕ → Lines → LinesPlace → Type 0
GoodLinesPlace n x lines_front = Unit {0}
GoodLinesPlace n x name_wanted = TakesNamed x
GoodLinesPlace n x (name xs) = TakesNamed x × IsWord xs
GoodLinesPlace n x (in_poly xs fs k) = TakesNamed x × IsWord xs × GoodPolys fs × GoodPolyPlace fs k
GoodLinesPlace n x (moves ms) = TakesShown x × GoodMoves n ms
GoodLinesPlace n x (from_wanted ms) = TakesShown x × All MoveFits ms × (length ms < n)
GoodLinesPlace n x (from ms i) = TakesShown x × All MoveFits ms × (length ms < n) × IsSmall i
GoodLinesPlace n x (to_wanted ms i) = TakesShown x × All MoveFits ms × (length ms < n) × IsSmall i
GoodLinesPlace n x (to ms i j) = TakesShown x × All MoveFits ms × (length ms < n) × IsSmall i × IsSmall j
GoodLinesPlace n x (amount_wanted ms i j) = TakesShown x × All MoveFits ms × (length ms < n) × IsSmall i × IsSmall j
GoodLinesPlace n x (amount ms i j k) = TakesShown x × All MoveFits ms × (length ms < n) × IsSmall i × IsSmall j × IsBig k

-- more bytes leave the limits good

interps_wider : (n m : ℕ) (is : List Interp) → n ≤ m → GoodInterps n is → GoodInterps m is
interps_wider n m is le g = (g.0, omega (arith, g.1))

covers_wider : (n m : ℕ) (rs : List (List moved.Move)) → n ≤ m → GoodCovers n rs → GoodCovers m rs
covers_wider n m rs le g =
    (g.0, All-weaker (λ (ms : List moved.Move). length ms ≤ n) (λ (ms : List moved.Move). length ms ≤ m) (λ ms p. omega arith) rs g.1, omega (arith, g.2))

pub lines_wider : (n m : ℕ) (x : Lines) → n ≤ m → GoodLines n x → GoodLines m x
lines_wider n m (in_funs funs) le g = interps_wider n m funs le g
lines_wider n m (in_marks funs marks) le g = (interps_wider n m funs le g.0, interps_wider n m marks le g.1)
lines_wider n m (in_rules funs marks rules) le g =
    (interps_wider n m funs le g.0, interps_wider n m marks le g.1, covers_wider n m rules le g.2)
lines_wider n m (in_pairs funs marks rules pairs) le g =
    (interps_wider n m funs le g.0, interps_wider n m marks le g.1, covers_wider n m rules le g.2, covers_wider n m pairs le g.3)

-- one more of a kind

interp_pushed : (n : ℕ) (is : List Interp) (i : Interp) → GoodInterps n is → InterpFits i → GoodInterps (suc n) (is ++ i ∷ [])
interp_pushed n is i g fits = (All-push InterpFits is i g.0 fits, omega (arith, length-append is (i ∷ []), g.1))

cover_pushed : (n : ℕ) (rs : List (List moved.Move)) (ms : List moved.Move) → GoodCovers n rs → GoodMoves n ms → GoodCovers (suc n) (rs ++ ms ∷ [])
cover_pushed n rs ms g few =
    let wide = covers_wider n (suc n) rs (omega arith) g in
    (All-push (All MoveFits) rs ms g.0 few.0, All-push (λ (qs : List moved.Move). length qs ≤ suc n) rs ms wide.1 (omega (arith, few.1)), omega (arith, length-append rs (ms ∷ []), g.2))

pub interp_good : (n : ℕ) (x : Lines) (i : Interp) → TakesNamed x → GoodLines n x → InterpFits i → GoodLines (suc n) (add_named x i)
interp_good n (in_funs funs) i t g fits = interp_pushed n funs i g fits
interp_good n (in_marks funs marks) i t g fits = (interps_wider n (suc n) funs (omega arith) g.0, interp_pushed n marks i g.1 fits)
interp_good n (in_rules funs marks rules) i t g fits = absurd t
interp_good n (in_pairs funs marks rules pairs) i t g fits = absurd t

pub cover_good : (n : ℕ) (x : Lines) (ms : List moved.Move) → TakesShown x → GoodLines n x → GoodMoves n ms → GoodLines (suc n) (add_shown x ms)
cover_good n (in_funs funs) ms t g few = absurd t
cover_good n (in_marks funs marks) ms t g few = absurd t
cover_good n (in_rules funs marks rules) ms t g few =
    (interps_wider n (suc n) funs (omega arith) g.0, interps_wider n (suc n) marks (omega arith) g.1, cover_pushed n rules ms g.2 few)
cover_good n (in_pairs funs marks rules pairs) ms t g few =
    (interps_wider n (suc n) funs (omega arith) g.0, interps_wider n (suc n) marks (omega arith) g.1, covers_wider n (suc n) rules (omega arith) g.2, cover_pushed n pairs ms g.3 few)

-- after n bytes the step leads to good lines and a good place, which have read f
abbrev pub LinesNext : ℕ → LinesStep → (List ℕ → List ℕ) → Type 0
LinesNext n (on x k) f = GoodLines n x × GoodLinesPlace n x k × ((r : List ℕ) → lines_seen x k r ≡ f r)
LinesNext n (begins x) f = GoodLines n x × ((r : List ℕ) → put_lines x (line_first x ∷ r) ≡ f r)
LinesNext n (drops x) f = GoodLines n x × ((r : List ℕ) → put_lines x (100 ∷ r) ≡ f r)
LinesNext n refused f = Unit {0}

if_byte : (n b c : ℕ) (s o : LinesStep) (f : List ℕ → List ℕ) → LinesNext n s (λ r. f (c ∷ r)) → LinesNext n o (λ r. f (b ∷ r)) → LinesNext n (cond (b == c) s o) (λ r. f (b ∷ r))
if_byte n b c s o f so other =
    cond_both (b == c) s o (λ t. LinesNext n t (λ r. f (b ∷ r)))
    (λ e. subst (λ (x : ℕ). LinesNext n s (λ r. f (x ∷ r))) (sym (eqb-true b c e)) so)
    (λ e. other)

if_so : (n : ℕ) (t : Bool) (s o : LinesStep) (f : List ℕ → List ℕ) → (t ≡ true → LinesNext n s f) → LinesNext n o f → LinesNext n (cond t s o) f
if_so n t s o f so other = cond_both t s o (λ u. LinesNext n u f) so (λ e. other)

next_same : (n : ℕ) (s : LinesStep) (f g : List ℕ → List ℕ) → ((r : List ℕ) → f r ≡ g r) → LinesNext n s f → LinesNext n s g
next_same n (on x k) f g same h = (h.0, h.1, λ r. h.2 r ∙ same r)
next_same n (begins x) f g same h = (h.0, λ r. h.1 r ∙ same r)
next_same n (drops x) f g same h = (h.0, λ r. h.1 r ∙ same r)
next_same n refused f g same h = tt

-- the first byte of a line

first_next : (n : ℕ) (s : LinesStep) (f : List ℕ → List ℕ) → sections.FirstNext spelling limits n s f → LinesNext n s f
first_next n (on x k) f h = absurd h
first_next n (begins x) f h = h
first_next n (drops x) f h = h
first_next n refused f h = tt

first_kept : (n : ℕ) (x : Lines) (b : ℕ) → GoodLines n x → LinesNext n (first_step x b) (λ r. put_lines x (b ∷ r))
first_kept n x b g = first_next n (first_step x b) (λ r. put_lines x (b ∷ r)) (sections.first_kept LinesPlace spelling limits n x b g)

-- names and polynomials

name_kept : (n : ℕ) (x : Lines) (xs : List ℕ) (b : ℕ) → GoodLines n x → TakesNamed x → IsWord xs → LinesNext (suc n) (lines_step x (name xs) b) (λ r. lines_seen x (name xs) (b ∷ r))
name_kept n x xs b g t word =
    let wide = lines_wider n (suc n) x (omega arith) g in
    if_so (suc n) (is_part b && nat_lt (length xs) 64) (on x (name (xs ++ b ∷ []))) _ (λ r. lines_seen x (name xs) (b ∷ r))
    (λ e. (wide, (t, next_letter xs b word e), λ r. ap (put_begun x) (append_assoc xs (b ∷ []) r)))
    (if_byte (suc n) b 32 (on x (in_poly xs outside poly_wanted)) refused (lines_seen x (name xs)) (wide, (t, word, tt, tt), λ r. refl) tt)

poly_led_kept : (n : ℕ) (x : Lines) (xs : List ℕ) (s : PolyStep) (f : List ℕ → List ℕ) → GoodLines n x → TakesNamed x → IsWord xs → PolyNext s f → LinesNext (suc n) (poly_led x xs s) (λ r. put_begun x (xs ++ (32 ∷ f r)))
poly_led_kept n x xs (goes fs k) f g t word next =
    (lines_wider n (suc n) x (omega arith) g, (t, word, next.0, next.1), λ r. ap (λ (s : List ℕ). put_begun x (xs ++ (32 ∷ s))) (next.2 r))
poly_led_kept n x xs (poly_ended p b) f g t word next =
    let i : Interp = record { name = xs; poly = p } in
    next_same (suc n) (cond (b == 10) (on (add_named x i) lines_front) refused) (λ r. put_begun x (xs ++ (32 ∷ put_poly p (b ∷ r)))) (λ r. put_begun x (xs ++ (32 ∷ f r)))
    (λ r. ap (λ (s : List ℕ). put_begun x (xs ++ (32 ∷ s))) (next.1 r))
    (if_byte (suc n) b 10 (on (add_named x i) lines_front) refused (λ r. put_begun x (xs ++ (32 ∷ put_poly p r)))
    (interp_good n x i t g (record { name = word; poly = next.0 }), tt, λ r. interp_text x i r t)
    tt)
poly_led_kept n x xs no_poly f g t word next = tt

-- moves

moves_kept : (n : ℕ) (x : Lines) (ms : List moved.Move) (b : ℕ) → GoodLines n x → TakesShown x → GoodMoves n ms → LinesNext (suc n) (moves_step x ms b) (λ r. put_begun x (put_moves ms (b ∷ r)))
moves_kept n x ms b g t few =
    if_byte (suc n) b 32 (on x (from_wanted ms)) _ (λ r. put_begun x (put_moves ms r))
    (lines_wider n (suc n) x (omega arith) g, (t, few.0, omega (arith, few.1)), λ r. refl)
    (if_byte (suc n) b 10 (on (add_shown x ms) lines_front) refused (λ r. put_begun x (put_moves ms r))
    (cover_good n x ms t g few, tt, λ r. cover_text x ms r t)
    tt)

move_kept : (n : ℕ) (x : Lines) (ms : List moved.Move) (i j k b : ℕ) → GoodLines n x → GoodLinesPlace n x (amount ms i j k) → LinesNext (suc n) (moves_step x (add_move ms i j k) b) (λ r. lines_seen x (amount ms i j k) (b ∷ r))
move_kept n x ms i j k b g p =
    let m : moved.Move = record { from = i; to = j; amount = k } in
    next_same (suc n) (moves_step x (ms ++ m ∷ []) b) (λ r. put_begun x (put_moves (ms ++ m ∷ []) (b ∷ r))) (λ r. lines_seen x (amount ms i j k) (b ∷ r))
    (λ r. ap (put_begun x) (moves_add ms m (b ∷ r)))
    (moves_kept n x (ms ++ m ∷ []) b g p.0 (All-push MoveFits ms m p.1 (record { from = p.3; to = p.4; amount = p.5 }), omega (arith, length-append ms (m ∷ []), p.2)))

-- each step

pub lines_kept : (n : ℕ) (x : Lines) (k : LinesPlace) (b : ℕ) → GoodLines n x → GoodLinesPlace n x k → LinesNext (suc n) (lines_step x k b) (λ r. lines_seen x k (b ∷ r))
lines_kept n x lines_front b g p = first_kept (suc n) x b (lines_wider n (suc n) x (omega arith) g)
lines_kept n x name_wanted b g p =
    if_so (suc n) (is_start b) (on x (name (b ∷ []))) refused (λ r. lines_seen x name_wanted (b ∷ r))
    (λ e. (lines_wider n (suc n) x (omega arith) g, (p, first_letter b e), λ r. refl)) tt
lines_kept n x (name xs) b g p = name_kept n x xs b g p.0 p.1
lines_kept n x (in_poly xs fs k) b g p =
    poly_led_kept n x xs (poly_step fs k b) (λ r. poly_seen fs k (b ∷ r)) g p.0 p.1 (poly_kept fs k b p.2 p.3)
lines_kept n x (moves ms) b g p = moves_kept n x ms b g p.0 p.1
lines_kept n x (from_wanted ms) b g p =
    if_so (suc n) (is_digit b) (on x (from ms (b - 48))) refused (λ r. lines_seen x (from_wanted ms) (b ∷ r))
    (λ e. (lines_wider n (suc n) x (omega arith) g, (p.0, p.1, omega (arith, p.2), first_digit_small b e), λ r. ap (λ (s : List ℕ). put_begun x (put_moves ms (32 ∷ s))) (first_digit_spelled b r e))) tt
lines_kept n x (from ms i) b g p =
    let wide = lines_wider n (suc n) x (omega arith) g in
    if_so (suc n) (goes_on i b) (on x (from ms (10 * i + (b - 48)))) _ (λ r. lines_seen x (from ms i) (b ∷ r))
    (λ e. (wide, (p.0, p.1, omega (arith, p.2), (goes_on_true i b e).fits), λ r. ap (λ (s : List ℕ). put_begun x (put_moves ms (32 ∷ s))) (next_digit_spelled i b r e)))
    (if_byte (suc n) b 62 (on x (to_wanted ms i)) refused (lines_seen x (from ms i)) (wide, (p.0, p.1, omega (arith, p.2), p.3), λ r. refl) tt)
lines_kept n x (to_wanted ms i) b g p =
    if_so (suc n) (is_digit b) (on x (to ms i (b - 48))) refused (λ r. lines_seen x (to_wanted ms i) (b ∷ r))
    (λ e. (lines_wider n (suc n) x (omega arith) g, (p.0, p.1, omega (arith, p.2), p.3, first_digit_small b e), λ r. ap (λ (s : List ℕ). put_begun x (put_moves ms (32 ∷ (decimal i ++ (62 ∷ s))))) (first_digit_spelled b r e))) tt
lines_kept n x (to ms i j) b g p =
    let wide = lines_wider n (suc n) x (omega arith) g in
    if_so (suc n) (goes_on j b) (on x (to ms i (10 * j + (b - 48)))) _ (λ r. lines_seen x (to ms i j) (b ∷ r))
    (λ e. (wide, (p.0, p.1, omega (arith, p.2), p.3, (goes_on_true j b e).fits), λ r. ap (λ (s : List ℕ). put_begun x (put_moves ms (32 ∷ (decimal i ++ (62 ∷ s))))) (next_digit_spelled j b r e)))
    (if_byte (suc n) b 58 (on x (amount_wanted ms i j)) refused (lines_seen x (to ms i j)) (wide, (p.0, p.1, omega (arith, p.2), p.3, p.4), λ r. refl) tt)
lines_kept n x (amount_wanted ms i j) b g p =
    if_so (suc n) (begins_big b) (on x (amount ms i j (b - 48))) refused (λ r. lines_seen x (amount_wanted ms i j) (b ∷ r))
    (λ e. (lines_wider n (suc n) x (omega arith) g, (p.0, p.1, omega (arith, p.2), p.3, p.4, first_big b e), λ r. ap (λ (s : List ℕ). put_begun x (put_moves ms (32 ∷ (decimal i ++ (62 ∷ (decimal j ++ (58 ∷ s))))))) (begins_big_spelled b r e))) tt
lines_kept n x (amount ms i j k) b g p =
    if_so (suc n) (goes_on_big k b) (on x (amount ms i j (10 * k + (b - 48)))) _ (λ r. lines_seen x (amount ms i j k) (b ∷ r))
    (λ e. (lines_wider n (suc n) x (omega arith) g, (p.0, p.1, omega (arith, p.2), p.3, p.4, next_big k b p.5 e), λ r. ap (λ (s : List ℕ). put_begun x (put_moves ms (32 ∷ (decimal i ++ (62 ∷ (decimal j ++ (58 ∷ s))))))) (next_big_spelled k b r p.5 e)))
    (move_kept n x ms i j k b g p)

-- behind the word of a line

pub begun_good : (n : ℕ) (x : Lines) → GoodLinesPlace n x (line_begun x)
begun_good n (in_funs funs) = tt
begun_good n (in_marks funs marks) = tt
begun_good n (in_rules funs marks rules) = (tt, (All-nil MoveFits, omega arith))
begun_good n (in_pairs funs marks rules pairs) = (tt, (All-nil MoveFits, omega arith))

pub begun_text : (x : Lines) (r : List ℕ) → lines_seen x (line_begun x) r ≡ put_begun x r
begun_text (in_funs funs) r = refl
begun_text (in_marks funs marks) r = refl
begun_text (in_rules funs marks rules) r = refl
begun_text (in_pairs funs marks rules pairs) r = refl
