-- A spelling of a polynomial is read, and every front that the reader of polynomials goes along can be ended.
use Rattle.std.proofs.Common.{◌≡◌, ℕ, ◌+◌, ◌-◌, ◌*◌, ◌^◌, ◌<◌, false, ◌&&◌, ◌==◌, ltb, List, [], ◌∷◌, ◌++◌, refl, sym, ap, ◌∙◌, arith}
use Rattle.std.proofs.lemmas.Bool.{and_left, ne_eqb, lt-ltb, cond-true, cond-false}
use Rattle.std.specs.Fmt.{decimal}
use Rattle.wh_text.specs.Chars.{is_digit}
use Rattle.wh_poly.specs.Polynomials.{Polynomial, zero_poly, plus, Factors, no_factors, times, Arguments, no_arguments, argument}
use Rattle.wh_cert_letters.specs.Digits.{goes_on, begins_big, goes_on_big}
use Rattle.wh_cert_letters.proofs.NamesAndNumbers.{ReadsNumbers, number_run, is_digit_48, goes_on_48}
use Rattle.wh_cert.specs.PolyText.{put_poly, put_sum, put_factors, put_polys, put_more}
use Rattle.wh_cert.specs.TermLimits.{IsSmall}
use Rattle.wh_cert.specs.PolyLimits.{PolyFits, FactorsFit, PolysFit}
use Rattle.wh_cert_parts.specs.PolyMachine.{PolyStack, outside, inside, PolyPlace, poly_wanted, nought, added, coefficient, factor_wanted, head_wanted, head, closed_poly, PolyStep, goes, no_poly, poly_level, add_monomial, add_factor, add_argument, behind_poly, behind_part, first_coefficient, head_ended}
use Rattle.wh_cert_parts.proofs.BigNumbers.{ReadsBigs, big_run, begins_big_48, goes_on_big_48}
use Rattle.wh_cert_parts.proofs.PolyLaws.{poly_read, poly_scan}

-- lists one behind the other

abbrev pub join_sums : Polynomial → Polynomial → Polynomial
join_sums zero_poly q = q
join_sums (plus c us p) q = plus c us (join_sums p q)

abbrev pub join_factors : Factors → Factors → Factors
join_factors no_factors vs = vs
join_factors (times x ps us) vs = times x ps (join_factors us vs)

abbrev pub join_polys : Arguments → Arguments → Arguments
join_polys no_arguments qs = qs
join_polys (argument p ps) qs = argument p (join_polys ps qs)

join_sums_add : (p : Polynomial) (c : ℕ) (us : Factors) (q : Polynomial) → join_sums (add_monomial p c us) q ≡ join_sums p (plus c us q)
join_sums_add zero_poly c us q = refl
join_sums_add (plus d vs p) c us q = ap (λ (o : Polynomial). plus d vs o) (join_sums_add p c us q)

join_sums_zero : (p : Polynomial) → join_sums p zero_poly ≡ p
join_sums_zero zero_poly = refl
join_sums_zero (plus d vs p) = ap (λ (o : Polynomial). plus d vs o) (join_sums_zero p)

join_factors_add : (us : Factors) (x : ℕ) (ps : Arguments) (vs : Factors) → join_factors (add_factor us x ps) vs ≡ join_factors us (times x ps vs)
join_factors_add no_factors x ps vs = refl
join_factors_add (times y qs us) x ps vs = ap (λ (ws : Factors). times y qs ws) (join_factors_add us x ps vs)

join_factors_none : (us : Factors) → join_factors us no_factors ≡ us
join_factors_none no_factors = refl
join_factors_none (times y qs us) = ap (λ (ws : Factors). times y qs ws) (join_factors_none us)

join_polys_add : (ps : Arguments) (p : Polynomial) (qs : Arguments) → join_polys (add_argument ps p) qs ≡ join_polys ps (argument p qs)
join_polys_add no_arguments p qs = refl
join_polys_add (argument q ps) p qs = ap (λ (os : Arguments). argument q os) (join_polys_add ps p qs)

join_polys_one : (ps : Arguments) (p : Polynomial) → add_argument ps p ≡ join_polys ps (argument p no_arguments)
join_polys_one no_arguments p = refl
join_polys_one (argument q ps) p = ap (λ (os : Arguments). argument q os) (join_polys_one ps p)

-- what may come behind a number, and behind a polynomial

abbrev pub Clear : List ℕ → Type 0
Clear [] = ⊥
Clear (b ∷ r) = (is_digit b ≡ false) × ((b == 40) ≡ false)

abbrev pub PolyTurn : ℕ → Type 0
PolyTurn b = (is_digit b ≡ false) × ((b == 40) ≡ false) × ((b == 42) ≡ false) × ((b == 43) ≡ false)

turn_clear : (b : ℕ) (r : List ℕ) → PolyTurn b → Clear (b ∷ r)
turn_clear b r t = (t.0, t.1)

factors_clear : (us : Factors) (r : List ℕ) → Clear r → Clear (put_factors us r)
factors_clear no_factors r h = h
factors_clear (times x ps us) r h = (refl, refl)

sum_clear : (p : Polynomial) (r : List ℕ) → Clear r → Clear (put_sum p r)
sum_clear zero_poly r h = h
sum_clear (plus c us p) r h = (refl, refl)

-- numbers

coefficient_stops : (fs : PolyStack) (p : Polynomial) (c : ℕ) (r : List ℕ) → Clear r → poly_scan (goes fs (coefficient p c)) r ≡ poly_scan (goes fs (closed_poly p c no_factors)) r
coefficient_stops fs p c [] h = absurd h
coefficient_stops fs p c (b ∷ r) h =
    ap (λ (s : PolyStep). poly_scan s r) (cond-false (goes_on_big c b) (goes fs (coefficient p (10 * c + (b - 48)))) (behind_part fs p c no_factors b) (and_left (is_digit b) _ h.0))

head_stops : (fs : PolyStack) (p : Polynomial) (c : ℕ) (us : Factors) (x : ℕ) (r : List ℕ) → Clear r → poly_scan (goes fs (head p c us x)) r ≡ poly_scan (goes fs (closed_poly p c (add_factor us x no_arguments))) r
head_stops fs p c us x [] h = absurd h
head_stops fs p c us x (b ∷ r) h =
    ap (λ (s : PolyStep). poly_scan s r) (cond-false (goes_on x b) (goes fs (head p c us (10 * x + (b - 48)))) (head_ended fs p c us x b) (and_left (is_digit b) _ h.0)
    ∙ cond-false ((b == 40) && ltb (poly_level fs) 64) (goes (inside p c us x no_arguments fs) poly_wanted) (behind_part fs p c (add_factor us x no_arguments) b) (and_left (b == 40) _ h.1))

-- a monomial has ended
part_stops : (fs : PolyStack) (p : Polynomial) (c : ℕ) (us : Factors) (b : ℕ) (r : List ℕ) → PolyTurn b → poly_scan (behind_part fs p c us b) r ≡ poly_scan (behind_poly fs (add_monomial p c us) b) r
part_stops fs p c us b r t =
    ap (λ (s : PolyStep). poly_scan s r) (cond-false (b == 42) (goes fs (factor_wanted p c us)) _ t.2
    ∙ cond-false (b == 43) (goes fs (added (add_monomial p c us))) (behind_poly fs (add_monomial p c us) b) t.3)

coefficient_more : (fs : PolyStack) (p : Polynomial) (n d : ℕ) (r : List ℕ) → d < 10 → 10 * n + d < 2 ^ 128 → poly_scan (goes fs (coefficient p n)) ((48 + d) ∷ r) ≡ poly_scan (goes fs (coefficient p (10 * n + d))) r
coefficient_more fs p n d r below fits =
    ap (λ (s : PolyStep). poly_scan s r) (cond-true (goes_on_big n (48 + d)) (goes fs (coefficient p (10 * n + (48 + d - 48)))) (behind_part fs p n no_factors (48 + d)) (goes_on_big_48 n d below fits))
    ∙ ap (λ (i : ℕ). poly_scan (goes fs (coefficient p i)) r) (omega arith)

coefficient_first : (fs : PolyStack) (p : Polynomial) (d : ℕ) (r : List ℕ) → 0 < d → d < 10 → poly_scan (first_coefficient fs p (48 + d)) r ≡ poly_scan (goes fs (coefficient p d)) r
coefficient_first fs p d r some below =
    ap (λ (s : PolyStep). poly_scan s r) (cond-true (begins_big (48 + d)) (goes fs (coefficient p (48 + d - 48))) no_poly (begins_big_48 d some below))
    ∙ ap (λ (i : ℕ). poly_scan (goes fs (coefficient p i)) r) (omega arith)

reads_added : (fs : PolyStack) (p : Polynomial) → ReadsBigs (λ (r : List ℕ). poly_scan (goes fs (added p)) r) (λ (n : ℕ) (r : List ℕ). poly_scan (goes fs (coefficient p n)) r)
reads_added fs p = record {
  starts = λ d r some below. coefficient_first fs p d r some below;
  goes = λ n d r below fits. coefficient_more fs p n d r below fits;
}

reads_first : (fs : PolyStack) → ReadsBigs (λ (r : List ℕ). poly_scan (goes fs poly_wanted) r) (λ (n : ℕ) (r : List ℕ). poly_scan (goes fs (coefficient zero_poly n)) r)
reads_first fs = record {
  starts = λ d r some below. ap (λ (s : PolyStep). poly_scan s r) (cond-false ((48 + d) == 48) (goes fs nought) (first_coefficient fs zero_poly (48 + d)) (ne_eqb (48 + d) 48 (λ e. omega (arith, e, some)))) ∙ coefficient_first fs zero_poly d r some below;
  goes = λ n d r below fits. coefficient_more fs zero_poly n d r below fits;
}

reads_heads : (fs : PolyStack) (p : Polynomial) (c : ℕ) (us : Factors) → ReadsNumbers (λ (r : List ℕ). poly_scan (goes fs (head_wanted p c us)) r) (λ (n : ℕ) (r : List ℕ). poly_scan (goes fs (head p c us n)) r)
reads_heads fs p c us = record {
  starts = λ d r low. ap (λ (s : PolyStep). poly_scan s r) (cond-true (is_digit (48 + d)) (goes fs (head p c us (48 + d - 48))) no_poly (is_digit_48 d low)) ∙ ap (λ (n : ℕ). poly_scan (goes fs (head p c us n)) r) (omega arith);
  goes = λ n d r some below fits. ap (λ (s : PolyStep). poly_scan s r) (cond-true (goes_on n (48 + d)) (goes fs (head p c us (10 * n + (48 + d - 48)))) (head_ended fs p c us n (48 + d)) (goes_on_48 n d some below fits)) ∙ ap (λ (i : ℕ). poly_scan (goes fs (head p c us i)) r) (omega arith);
}

head_run : (fs : PolyStack) (p : Polynomial) (c : ℕ) (us : Factors) (x : ℕ) (r : List ℕ) → IsSmall x → poly_scan (goes fs (closed_poly p c us)) (42 ∷ 121 ∷ (decimal x ++ r)) ≡ poly_scan (goes fs (head p c us x)) r
head_run fs p c us x r small = number_run _ _ (reads_heads fs p c us) x r small

-- a spelling is read

abbrev pub put_list : Arguments → List ℕ → List ℕ
put_list no_arguments r = r
put_list (argument p ps) r = put_poly p (put_more ps r)

abbrev Some : Arguments → Type 0
Some no_arguments = ⊥
Some (argument p ps) = Unit {0}

polys_run : (fs : PolyStack) (p : Polynomial) (c : ℕ) (us : Factors) (x : ℕ) (ps : Arguments) (r : List ℕ) → PolysFit (poly_level fs) ps → Clear r
    → (Some ps → poly_scan (goes (inside p c us x no_arguments fs) poly_wanted) (put_list ps r) ≡ poly_scan (goes fs (closed_poly p c (add_factor us x ps))) r)
    → poly_scan (goes fs (head p c us x)) (put_polys ps r) ≡ poly_scan (goes fs (closed_poly p c (add_factor us x ps))) r
polys_run fs p c us x no_arguments r h k run = head_stops fs p c us x r k
polys_run fs p c us x (argument q qs) r h k run =
    ap (λ (s : PolyStep). poly_scan s (put_list (argument q qs) r)) (cond-true (ltb (poly_level fs) 64) (goes (inside p c us x no_arguments fs) poly_wanted) (behind_part fs p c (add_factor us x no_arguments) 40) (lt-ltb (poly_level fs) 64 h.0))
    ∙ run tt

mutual
  pub poly_run : (fs : PolyStack) (p : Polynomial) (b : ℕ) (r : List ℕ) → PolyFits (poly_level fs) p → PolyTurn b → poly_scan (goes fs poly_wanted) (put_poly p (b ∷ r)) ≡ poly_scan (behind_poly fs p b) r
  poly_run fs zero_poly b r h t = refl
  poly_run fs (plus c us q) b r h t =
      let clear = sum_clear q (b ∷ r) (turn_clear b r t) in
      big_run _ _ (reads_first fs) c (put_factors us (put_sum q (b ∷ r))) h.0
      ∙ coefficient_stops fs zero_poly c (put_factors us (put_sum q (b ∷ r))) (factors_clear us (put_sum q (b ∷ r)) clear)
      ∙ factors_run fs zero_poly c no_factors us (put_sum q (b ∷ r)) h.1 clear
      ∙ sum_run fs zero_poly c us q b r h.2 t

  sum_run : (fs : PolyStack) (p : Polynomial) (c : ℕ) (us : Factors) (q : Polynomial) (b : ℕ) (r : List ℕ) → PolyFits (poly_level fs) q → PolyTurn b → poly_scan (goes fs (closed_poly p c us)) (put_sum q (b ∷ r)) ≡ poly_scan (behind_poly fs (join_sums (add_monomial p c us) q) b) r
  sum_run fs p c us zero_poly b r h t =
      part_stops fs p c us b r t ∙ ap (λ (o : Polynomial). poly_scan (behind_poly fs o b) r) (sym (join_sums_zero (add_monomial p c us)))
  sum_run fs p c us (plus d vs q) b r h t =
      let clear = sum_clear q (b ∷ r) (turn_clear b r t) in
      let before : Polynomial = add_monomial p c us in
      big_run _ _ (reads_added fs before) d (put_factors vs (put_sum q (b ∷ r))) h.0
      ∙ coefficient_stops fs before d (put_factors vs (put_sum q (b ∷ r))) (factors_clear vs (put_sum q (b ∷ r)) clear)
      ∙ factors_run fs before d no_factors vs (put_sum q (b ∷ r)) h.1 clear
      ∙ sum_run fs before d vs q b r h.2 t
      ∙ ap (λ (o : Polynomial). poly_scan (behind_poly fs o b) r) (join_sums_add before d vs q)

  factors_run : (fs : PolyStack) (p : Polynomial) (c : ℕ) (us vs : Factors) (r : List ℕ) → FactorsFit (poly_level fs) vs → Clear r → poly_scan (goes fs (closed_poly p c us)) (put_factors vs r) ≡ poly_scan (goes fs (closed_poly p c (join_factors us vs))) r
  factors_run fs p c us no_factors r h k =
      ap (λ (ws : Factors). poly_scan (goes fs (closed_poly p c ws)) r) (sym (join_factors_none us))
  factors_run fs p c us (times x ps vs) r h k =
      let clear = factors_clear vs r k in
      head_run fs p c us x (put_polys ps (put_factors vs r)) h.0
      ∙ polys_run fs p c us x ps (put_factors vs r) h.1 clear (λ some. arguments_run fs p c us x no_arguments ps (put_factors vs r) h.1 some)
      ∙ factors_run fs p c (add_factor us x ps) vs r h.2 k
      ∙ ap (λ (ws : Factors). poly_scan (goes fs (closed_poly p c ws)) r) (join_factors_add us x ps vs)

  arguments_run : (fs : PolyStack) (p : Polynomial) (c : ℕ) (us : Factors) (x : ℕ) (done ps : Arguments) (r : List ℕ) → PolysFit (poly_level fs) ps → Some ps → poly_scan (goes (inside p c us x done fs) poly_wanted) (put_list ps r) ≡ poly_scan (goes fs (closed_poly p c (add_factor us x (join_polys done ps)))) r
  arguments_run fs p c us x done no_arguments r h some = absurd some
  arguments_run fs p c us x done (argument q no_arguments) r h some =
      poly_run (inside p c us x done fs) q 41 r h.1 (refl, refl, refl, refl)
      ∙ ap (λ (os : Arguments). poly_scan (goes fs (closed_poly p c (add_factor us x os))) r) (join_polys_one done q)
  arguments_run fs p c us x done (argument q (argument o ps)) r h some =
      poly_run (inside p c us x done fs) q 44 (put_list (argument o ps) r) h.1 (refl, refl, refl, refl)
      ∙ arguments_run fs p c us x (add_argument done q) (argument o ps) r h.2 tt
      ∙ ap (λ (os : Arguments). poly_scan (goes fs (closed_poly p c (add_factor us x os))) r) (join_polys_add done q (argument o ps))

-- every front can be ended

-- what ends the open parentheses behind a polynomial, and what is read then
abbrev pub poly_closing : PolyStack → List ℕ → List ℕ
poly_closing outside r = r
poly_closing (inside p c us x ps fs) r = 41 ∷ poly_closing fs r

abbrev pub around : PolyStack → Polynomial → Polynomial
around outside p = p
around (inside q c us x ps fs) p = around fs (add_monomial q c (add_factor us x (add_argument ps p)))

-- the bytes w lead from the step to the end of some polynomial
pub record PolyEnds (s : PolyStep) : Type 0 where
  pub tail : List ℕ → List ℕ
  pub p : Polynomial
  pub ends : (b : ℕ) (r : List ℕ) → PolyTurn b → poly_scan s (tail (b ∷ r)) ≡ poly_read p (b ∷ r)

after_bytes : (s t : PolyStep) (w : List ℕ → List ℕ) → ((r : List ℕ) → poly_scan s (w r) ≡ poly_scan t r) → PolyEnds t → PolyEnds s
after_bytes s t w leads e =
    record { tail = λ r. w (e.tail r); p = e.p; ends = λ b r h. leads (e.tail (b ∷ r)) ∙ e.ends b r h }

closing_clear : (fs : PolyStack) (b : ℕ) (r : List ℕ) → PolyTurn b → Clear (poly_closing fs (b ∷ r))
closing_clear outside b r t = (t.0, t.1)
closing_clear (inside p c us x ps fs) b r t = (refl, refl)

closing_run : (fs : PolyStack) (p : Polynomial) (c : ℕ) (us : Factors) (b : ℕ) (r : List ℕ) → PolyTurn b → poly_scan (goes fs (closed_poly p c us)) (poly_closing fs (b ∷ r)) ≡ poly_read (around fs (add_monomial p c us)) (b ∷ r)
closing_run outside p c us b r t = part_stops outside p c us b r t
closing_run (inside q d vs x ps fs) p c us b r t = closing_run fs q d (add_factor vs x (add_argument ps (add_monomial p c us))) b r t

-- a step that goes on as one behind a part of a monomial does
part_ends : (fs : PolyStack) (s : PolyStep) (p : Polynomial) (c : ℕ) (us : Factors) → ((r : List ℕ) → Clear r → poly_scan s r ≡ poly_scan (goes fs (closed_poly p c us)) r) → PolyEnds s
part_ends fs s p c us same =
    record { tail = poly_closing fs; p = around fs (add_monomial p c us); ends = λ b r t. same (poly_closing fs (b ∷ r)) (closing_clear fs b r t) ∙ closing_run fs p c us b r t }

nought_ends : (fs : PolyStack) → PolyEnds (goes fs nought)
nought_ends outside = record { tail = λ r. r; p = zero_poly; ends = λ b r h. refl }
nought_ends (inside q d vs x ps fs) =
    after_bytes (goes (inside q d vs x ps fs) nought) (goes fs (closed_poly q d (add_factor vs x (add_argument ps zero_poly)))) (λ r. 41 ∷ r) (λ r. refl)
    (part_ends fs (goes fs (closed_poly q d (add_factor vs x (add_argument ps zero_poly)))) q d (add_factor vs x (add_argument ps zero_poly)) (λ r k. refl))

coefficient_ends : (fs : PolyStack) (p : Polynomial) (c : ℕ) → PolyEnds (goes fs (coefficient p c))
coefficient_ends fs p c = part_ends fs (goes fs (coefficient p c)) p c no_factors (λ r k. coefficient_stops fs p c r k)

head_ends : (fs : PolyStack) (p : Polynomial) (c : ℕ) (us : Factors) (x : ℕ) → PolyEnds (goes fs (head p c us x))
head_ends fs p c us x = part_ends fs (goes fs (head p c us x)) p c (add_factor us x no_arguments) (λ r k. head_stops fs p c us x r k)

variable_ends : (fs : PolyStack) (p : Polynomial) (c : ℕ) (us : Factors) → PolyEnds (goes fs (head_wanted p c us))
variable_ends fs p c us =
    after_bytes (goes fs (head_wanted p c us)) (goes fs (head p c us 0)) (λ r. 48 ∷ r) (λ r. refl) (head_ends fs p c us 0)

pub poly_ends : (fs : PolyStack) (k : PolyPlace) → PolyEnds (goes fs k)
poly_ends fs poly_wanted = after_bytes (goes fs poly_wanted) (goes fs nought) (λ r. 48 ∷ r) (λ r. refl) (nought_ends fs)
poly_ends fs nought = nought_ends fs
poly_ends fs (added p) =
    after_bytes (goes fs (added p)) (goes fs (coefficient p 1)) (λ r. 49 ∷ r) (λ r. refl) (coefficient_ends fs p 1)
poly_ends fs (coefficient p c) = coefficient_ends fs p c
poly_ends fs (factor_wanted p c us) =
    after_bytes (goes fs (factor_wanted p c us)) (goes fs (head_wanted p c us)) (λ r. 121 ∷ r) (λ r. refl) (variable_ends fs p c us)
poly_ends fs (head_wanted p c us) = variable_ends fs p c us
poly_ends fs (head p c us x) = head_ends fs p c us x
poly_ends fs (closed_poly p c us) = part_ends fs (goes fs (closed_poly p c us)) p c us (λ r k. refl)
