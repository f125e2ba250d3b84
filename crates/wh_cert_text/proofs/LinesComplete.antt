-- The reader of certificates reads each spelling of the lines of a node of interpretations.
use Rattle.std.proofs.Common.{◌≡◌, ℕ, ◌+◌, ◌-◌, ◌*◌, false, cond, ◌&&◌, ◌==◌, nat_lt, List, [], ◌∷◌, ◌++◌, length, codes, Option, refl, sym, ap, ◌∙◌, arith, append_assoc, append-nil}
use Rattle.std.specs.List.{All}
use Rattle.std.proofs.lemmas.Bool.{cond-true, lt-ltb, and_from}
use Rattle.std.proofs.lemmas.List.Elements.{All-head, All-tail}
use Rattle.std.specs.Fmt.{decimal}
use Rattle.wh_poly.specs.Polynomials.{Polynomial}
use Rattle.wh_hopoly.specs.declared.expression.Move as moved
use Rattle.wh_text.specs.Chars.{is_digit, is_start, is_part}
use Rattle.wh_cert_letters.specs.Digits.{goes_on, begins_big, goes_on_big}
use Rattle.wh_cert_letters.proofs.NamesAndNumbers.{ReadsNames, name_run, ReadsNumbers, number_run, is_digit_48, goes_on_48}
use Rattle.wh_cert.specs.PolyText.{put_poly}
use Rattle.wh_cert_parts.specs.PolyMachine.{outside, poly_wanted, PolyStep, goes, poly_ended, no_poly, poly_step}
use Rattle.wh_cert_parts.proofs.BigNumbers.{ReadsBigs, big_run, begins_big_48, goes_on_big_48}
use Rattle.wh_cert_parts.proofs.PolyLaws.{poly_read, poly_scan}
use Rattle.wh_cert_parts.proofs.PolyRuns.{poly_run}
use Rattle.wh_cert.specs.Interps.{Interp}
use Rattle.wh_cert.specs.Text.{put_interps, put_move, put_moves, put_covers}
use Rattle.wh_cert.specs.Limits.{InterpFits, MoveFits}
use Rattle.wh_cert_lines.proofs.SectionsLaws.{skip_funs, skip_marks, skip_rules}
use Rattle.wh_cert_lines.specs.PolyLines as l
use Rattle.wh_cert_lines.specs.PolyLines.{Lines, in_funs, in_marks, in_rules, in_pairs, lines_front, name_wanted, name, in_poly, moves, from_wanted, from, to_wanted, to, amount_wanted, amount, LinesStep, line_first, line_rest, line_begun, add_named, add_shown, poly_led, moves_step, add_move, lines_step}
use Rattle.wh_cert_machines.specs.YesMachine.{poly_lines, lines_led, Past}
use Rattle.wh_cert_machines.specs.LineMachine.{stands_yes, standing_after_yes, run}

-- names and numbers

line_names : (h : Past) (usable : Option (List ℕ)) (x : Lines) → ReadsNames (λ (r : List ℕ). run (stands_yes h (poly_lines usable x name_wanted)) r) (λ (xs r : List ℕ). run (stands_yes h (poly_lines usable x (name xs))) r)
line_names h usable x = record {
  starts = λ b r is. ap (λ (s : LinesStep). run (standing_after_yes h (lines_led usable s)) r) (cond-true (is_start b) (l.on x (name (b ∷ []))) l.refused is);
  goes = λ xs b r is short. ap (λ (s : LinesStep). run (standing_after_yes h (lines_led usable s)) r) (cond-true (is_part b && nat_lt (length xs) 64) (l.on x (name (xs ++ b ∷ []))) (cond (b == 32) (l.on x (in_poly xs outside poly_wanted)) l.refused) (and_from (is_part b) (nat_lt (length xs) 64) is (lt-ltb (length xs) 64 short)));
}

from_numbers : (h : Past) (usable : Option (List ℕ)) (x : Lines) (ms : List moved.Move) → ReadsNumbers (λ (r : List ℕ). run (stands_yes h (poly_lines usable x (from_wanted ms))) r) (λ (n : ℕ) (r : List ℕ). run (stands_yes h (poly_lines usable x (from ms n))) r)
from_numbers h usable x ms = record {
  starts = λ d r low. ap (λ (s : LinesStep). run (standing_after_yes h (lines_led usable s)) r) (cond-true (is_digit (48 + d)) (l.on x (from ms (48 + d - 48))) l.refused (is_digit_48 d low)) ∙ ap (λ (n : ℕ). run (stands_yes h (poly_lines usable x (from ms n))) r) (omega arith);
  goes = λ n d r some below fits. ap (λ (s : LinesStep). run (standing_after_yes h (lines_led usable s)) r) (cond-true (goes_on n (48 + d)) (l.on x (from ms (10 * n + (48 + d - 48)))) _ (goes_on_48 n d some below fits)) ∙ ap (λ (i : ℕ). run (stands_yes h (poly_lines usable x (from ms i))) r) (omega arith);
}

to_numbers : (h : Past) (usable : Option (List ℕ)) (x : Lines) (ms : List moved.Move) (i : ℕ) → ReadsNumbers (λ (r : List ℕ). run (stands_yes h (poly_lines usable x (to_wanted ms i))) r) (λ (n : ℕ) (r : List ℕ). run (stands_yes h (poly_lines usable x (to ms i n))) r)
to_numbers h usable x ms i = record {
  starts = λ d r low. ap (λ (s : LinesStep). run (standing_after_yes h (lines_led usable s)) r) (cond-true (is_digit (48 + d)) (l.on x (to ms i (48 + d - 48))) l.refused (is_digit_48 d low)) ∙ ap (λ (n : ℕ). run (stands_yes h (poly_lines usable x (to ms i n))) r) (omega arith);
  goes = λ n d r some below fits. ap (λ (s : LinesStep). run (standing_after_yes h (lines_led usable s)) r) (cond-true (goes_on n (48 + d)) (l.on x (to ms i (10 * n + (48 + d - 48)))) _ (goes_on_48 n d some below fits)) ∙ ap (λ (j : ℕ). run (stands_yes h (poly_lines usable x (to ms i j))) r) (omega arith);
}

amounts : (h : Past) (usable : Option (List ℕ)) (x : Lines) (ms : List moved.Move) (i j : ℕ) → ReadsBigs (λ (r : List ℕ). run (stands_yes h (poly_lines usable x (amount_wanted ms i j))) r) (λ (n : ℕ) (r : List ℕ). run (stands_yes h (poly_lines usable x (amount ms i j n))) r)
amounts h usable x ms i j = record {
  starts = λ d r some low. ap (λ (s : LinesStep). run (standing_after_yes h (lines_led usable s)) r) (cond-true (begins_big (48 + d)) (l.on x (amount ms i j (48 + d - 48))) l.refused (begins_big_48 d some low)) ∙ ap (λ (n : ℕ). run (stands_yes h (poly_lines usable x (amount ms i j n))) r) (omega arith);
  goes = λ n d r below fits. ap (λ (s : LinesStep). run (standing_after_yes h (lines_led usable s)) r) (cond-true (goes_on_big n (48 + d)) (l.on x (amount ms i j (10 * n + (48 + d - 48)))) (moves_step x (add_move ms i j n) (48 + d)) (goes_on_big_48 n d below fits)) ∙ ap (λ (k : ℕ). run (stands_yes h (poly_lines usable x (amount ms i j k))) r) (omega arith);
}

-- lines of interpretations

pub poly_lift : (h : Past) (usable : Option (List ℕ)) (x : Lines) (xs : List ℕ) (s : PolyStep) (w : List ℕ) (p : Polynomial) (r : List ℕ) → poly_scan s w ≡ poly_read p (10 ∷ r) → run (standing_after_yes h (lines_led usable (poly_led x xs s))) w ≡ run (stands_yes h (poly_lines usable (add_named x (record { name = xs; poly = p })) lines_front)) r
poly_lift h usable x xs (poly_ended q b) w p r e =
    let same : q ≡ p = cc in
    let ends : b ≡ 10 = cc in
    let rest : w ≡ r = cc in
    ap (λ (o : Polynomial). run (standing_after_yes h (lines_led usable (poly_led x xs (poly_ended o b)))) w) same
    ∙ ap (λ (c : ℕ). run (standing_after_yes h (lines_led usable (poly_led x xs (poly_ended p c)))) w) ends
    ∙ ap (λ (v : List ℕ). run (stands_yes h (poly_lines usable (add_named x (record { name = xs; poly = p })) lines_front)) v) rest
poly_lift h usable x xs no_poly w p r e = absurd cc
poly_lift h usable x xs (goes fs k) [] p r e = absurd cc
poly_lift h usable x xs (goes fs k) (b ∷ w) p r e = poly_lift h usable x xs (poly_step fs k b) w p r e

-- behind the word of such a line
interp_run : (h : Past) (usable : Option (List ℕ)) (x : Lines) (i : Interp) (r : List ℕ) → InterpFits i → run (stands_yes h (poly_lines usable x name_wanted)) (i.name ++ (32 ∷ put_poly i.poly (10 ∷ r))) ≡ run (stands_yes h (poly_lines usable (add_named x i) lines_front)) r
interp_run h usable x i r fits =
    name_run _ _ (line_names h usable x) i.name (32 ∷ put_poly i.poly (10 ∷ r)) fits.name
    ∙ poly_lift h usable x i.name (goes outside poly_wanted) (put_poly i.poly (10 ∷ r)) i.poly r (poly_run outside i.poly 10 r fits.poly (refl, refl, refl, refl))

pub funs_run : (h : Past) (usable : Option (List ℕ)) (funs more : List Interp) (r : List ℕ) → All InterpFits more → run (stands_yes h (poly_lines usable (in_funs funs) lines_front)) (put_interps (codes "fun ") more r) ≡ run (stands_yes h (poly_lines usable (in_funs (funs ++ more)) lines_front)) r
funs_run h usable funs [] r fits = ap (λ (zs : List Interp). run (stands_yes h (poly_lines usable (in_funs zs) lines_front)) r) (sym (append-nil funs))
funs_run h usable funs (i ∷ more) r fits =
    interp_run h usable (in_funs funs) i (put_interps (codes "fun ") more r) (All-head InterpFits i more fits)
    ∙ funs_run h usable (funs ++ i ∷ []) more r (All-tail InterpFits i more fits)
    ∙ ap (λ (zs : List Interp). run (stands_yes h (poly_lines usable (in_funs zs) lines_front)) r) (append_assoc funs (i ∷ []) more)

pub marks_run : (h : Past) (usable : Option (List ℕ)) (funs marks more : List Interp) (r : List ℕ) → All InterpFits more → run (stands_yes h (poly_lines usable (in_marks funs marks) lines_front)) (put_interps (codes "mark ") more r) ≡ run (stands_yes h (poly_lines usable (in_marks funs (marks ++ more)) lines_front)) r
marks_run h usable funs marks [] r fits = ap (λ (zs : List Interp). run (stands_yes h (poly_lines usable (in_marks funs zs) lines_front)) r) (sym (append-nil marks))
marks_run h usable funs marks (i ∷ more) r fits =
    interp_run h usable (in_marks funs marks) i (put_interps (codes "mark ") more r) (All-head InterpFits i more fits)
    ∙ marks_run h usable funs (marks ++ i ∷ []) more r (All-tail InterpFits i more fits)
    ∙ ap (λ (zs : List Interp). run (stands_yes h (poly_lines usable (in_marks funs zs) lines_front)) r) (append_assoc marks (i ∷ []) more)

-- lines of moves

-- behind an amount a line goes on as behind its word
next_move : (h : Past) (usable : Option (List ℕ)) (x : Lines) (ms : List moved.Move) (i j n : ℕ) (more : List moved.Move) (r : List ℕ) → run (stands_yes h (poly_lines usable x (amount ms i j n))) (put_moves more (10 ∷ r)) ≡ run (stands_yes h (poly_lines usable x (moves (add_move ms i j n)))) (put_moves more (10 ∷ r))
next_move h usable x ms i j n [] r = refl
next_move h usable x ms i j n (m ∷ more) r = refl

move_run : (h : Past) (usable : Option (List ℕ)) (x : Lines) (ms : List moved.Move) (m : moved.Move) (r : List ℕ) → MoveFits m → run (stands_yes h (poly_lines usable x (moves ms))) (put_move m r) ≡ run (stands_yes h (poly_lines usable x (amount ms m.from m.to m.amount))) r
move_run h usable x ms m r fits =
    number_run _ _ (from_numbers h usable x ms) m.from (62 ∷ (decimal m.to ++ (58 ∷ (decimal m.amount ++ r)))) fits.from
    ∙ number_run _ _ (to_numbers h usable x ms m.from) m.to (58 ∷ (decimal m.amount ++ r)) fits.to
    ∙ big_run _ _ (amounts h usable x ms m.from m.to) m.amount r fits.amount

moves_run : (h : Past) (usable : Option (List ℕ)) (x : Lines) (ms more : List moved.Move) (r : List ℕ) → All MoveFits more → run (stands_yes h (poly_lines usable x (moves ms))) (put_moves more (10 ∷ r)) ≡ run (stands_yes h (poly_lines usable (add_shown x (ms ++ more)) lines_front)) r
moves_run h usable x ms [] r fits = ap (λ (zs : List moved.Move). run (stands_yes h (poly_lines usable (add_shown x zs) lines_front)) r) (sym (append-nil ms))
moves_run h usable x ms (m ∷ more) r fits =
    move_run h usable x ms m (put_moves more (10 ∷ r)) (All-head MoveFits m more fits)
    ∙ next_move h usable x ms m.from m.to m.amount more r
    ∙ moves_run h usable x (ms ++ m ∷ []) more r (All-tail MoveFits m more fits)
    ∙ ap (λ (zs : List moved.Move). run (stands_yes h (poly_lines usable (add_shown x zs) lines_front)) r) (append_assoc ms (m ∷ []) more)

pub rules_run : (h : Past) (usable : Option (List ℕ)) (funs marks : List Interp) (rules more : List (List moved.Move)) (r : List ℕ) → All (All MoveFits) more → run (stands_yes h (poly_lines usable (in_rules funs marks rules) lines_front)) (put_covers (codes "rule") more r) ≡ run (stands_yes h (poly_lines usable (in_rules funs marks (rules ++ more)) lines_front)) r
rules_run h usable funs marks rules [] r fits = ap (λ (zs : List (List moved.Move)). run (stands_yes h (poly_lines usable (in_rules funs marks zs) lines_front)) r) (sym (append-nil rules))
rules_run h usable funs marks rules (ms ∷ more) r fits =
    moves_run h usable (in_rules funs marks rules) [] ms (put_covers (codes "rule") more r) (All-head (All MoveFits) ms more fits)
    ∙ rules_run h usable funs marks (rules ++ ms ∷ []) more r (All-tail (All MoveFits) ms more fits)
    ∙ ap (λ (zs : List (List moved.Move)). run (stands_yes h (poly_lines usable (in_rules funs marks zs) lines_front)) r) (append_assoc rules (ms ∷ []) more)

pub pairs_run : (h : Past) (usable : Option (List ℕ)) (funs marks : List Interp) (rules pairs more : List (List moved.Move)) (r : List ℕ) → All (All MoveFits) more → run (stands_yes h (poly_lines usable (in_pairs funs marks rules pairs) lines_front)) (put_covers (codes "pair") more r) ≡ run (stands_yes h (poly_lines usable (in_pairs funs marks rules (pairs ++ more)) lines_front)) r
pairs_run h usable funs marks rules pairs [] r fits = ap (λ (zs : List (List moved.Move)). run (stands_yes h (poly_lines usable (in_pairs funs marks rules zs) lines_front)) r) (sym (append-nil pairs))
pairs_run h usable funs marks rules pairs (ms ∷ more) r fits =
    moves_run h usable (in_pairs funs marks rules pairs) [] ms (put_covers (codes "pair") more r) (All-head (All MoveFits) ms more fits)
    ∙ pairs_run h usable funs marks rules (pairs ++ ms ∷ []) more r (All-tail (All MoveFits) ms more fits)
    ∙ ap (λ (zs : List (List moved.Move)). run (stands_yes h (poly_lines usable (in_pairs funs marks rules zs) lines_front)) r) (append_assoc pairs (ms ∷ []) more)

-- where no more line of a kind comes, it is as if one of the next kind had come

abbrev Other : ℕ → List ℕ → Type 0
Other c [] = ⊥
Other c (b ∷ r) = (b == c) ≡ false

-- one byte more, where the first one leads to the same
other_front : (h : Past) (usable : Option (List ℕ)) (x z : Lines) (c : ℕ) (w : List ℕ) → ((b : ℕ) → (b == c) ≡ false → l.first_step {K = l.LinesPlace} x b ≡ l.first_step z b) → Other c w
    → run (stands_yes h (poly_lines usable x lines_front)) w ≡ run (stands_yes h (poly_lines usable z lines_front)) w
other_front h usable x z c [] skip o = absurd o
other_front h usable x z c (b ∷ w) skip o = ap (λ (s : LinesStep). run (standing_after_yes h (lines_led usable s)) w) (skip b o)

-- all lines up to the word of that of `drop`

pairs_other : (pairs : List (List moved.Move)) (r : List ℕ) → Other 114 (put_covers (codes "pair") pairs (codes "drop" ++ r))
pairs_other [] r = refl
pairs_other (ms ∷ pairs) r = refl

rules_other : (rules pairs : List (List moved.Move)) (r : List ℕ) → Other 109 (put_covers (codes "rule") rules (put_covers (codes "pair") pairs (codes "drop" ++ r)))
rules_other [] [] r = refl
rules_other [] (ms ∷ pairs) r = refl
rules_other (ms ∷ rules) pairs r = refl

marks_other : (marks : List Interp) (rules pairs : List (List moved.Move)) (r : List ℕ) → Other 102 (put_interps (codes "mark ") marks (put_covers (codes "rule") rules (put_covers (codes "pair") pairs (codes "drop" ++ r))))
marks_other [] [] [] r = refl
marks_other [] [] (ms ∷ pairs) r = refl
marks_other [] (ms ∷ rules) pairs r = refl
marks_other (i ∷ marks) rules pairs r = refl

pub lines_run : (h : Past) (usable : Option (List ℕ)) (funs marks : List Interp) (rules pairs : List (List moved.Move)) (r : List ℕ) → All InterpFits funs → All InterpFits marks → All (All MoveFits) rules → All (All MoveFits) pairs
    → run (stands_yes h (poly_lines usable (in_funs []) lines_front)) (put_interps (codes "fun ") funs (put_interps (codes "mark ") marks (put_covers (codes "rule") rules (put_covers (codes "pair") pairs (codes "drop" ++ r)))))
    ≡ run (stands_yes h (poly_lines usable (in_pairs funs marks rules pairs) lines_front)) (codes "drop" ++ r)
lines_run h usable funs marks rules pairs r f m u p =
    let last : List ℕ = codes "drop" ++ r in
    let fourth : List ℕ = put_covers (codes "pair") pairs last in
    let third : List ℕ = put_covers (codes "rule") rules fourth in
    let second : List ℕ = put_interps (codes "mark ") marks third in
    funs_run h usable [] funs second f
    ∙ other_front h usable (in_funs funs) (in_marks funs []) 102 second (skip_funs funs) (marks_other marks rules pairs r)
    ∙ marks_run h usable funs [] marks third m
    ∙ other_front h usable (in_marks funs marks) (in_rules funs marks []) 109 third (skip_marks funs marks) (rules_other rules pairs r)
    ∙ rules_run h usable funs marks [] rules fourth u
    ∙ other_front h usable (in_rules funs marks rules) (in_pairs funs marks rules []) 114 fourth (skip_rules funs marks rules) (pairs_other pairs r)
    ∙ pairs_run h usable funs marks rules [] pairs last p
