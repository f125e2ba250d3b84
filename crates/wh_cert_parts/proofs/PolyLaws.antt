-- The reader of polynomials reads exactly their spellings: what it has read is spelled, a spelling is read, and every front that
-- it goes along can be ended.
use Rattle.std.proofs.Common.{◌≡◌, ℕ, suc, ◌+◌, ◌-◌, ◌*◌, ◌<◌, Bool, true, cond, ◌&&◌, ◌==◌, ltb, List, [], ◌∷◌, ◌++◌, refl, sym, ap, ◌∙◌, subst}
use Rattle.std.proofs.lemmas.Bool.{and_parts, eqb-true, ltb-true, cond_both}
use Rattle.std.specs.Fmt.{decimal}
use Rattle.wh_text.specs.Chars.{is_digit}
use Rattle.wh_poly.specs.Polynomials.{Polynomial, zero_poly, plus, Factors, no_factors, times, Arguments, no_arguments, argument}
use Rattle.wh_cert_letters.specs.Digits.{goes_on, begins_big, goes_on_big}
use Rattle.wh_cert_letters.proofs.NamesAndNumbers.{goes_on_true, first_digit_spelled, first_digit_small, next_digit_spelled}
use Rattle.wh_cert.specs.PolyText.{put_poly, put_sum, put_factors, put_polys, put_more}
use Rattle.wh_cert.specs.TermLimits.{IsSmall}
use Rattle.wh_cert.specs.PolyLimits.{IsBig, PolyFits, FactorsFit, PolysFit}
use Rattle.wh_cert_parts.specs.PolyMachine.{PolyStack, outside, inside, PolyPlace, poly_wanted, nought, added, coefficient, factor_wanted, head_wanted, head, closed_poly, PolyStep, goes, poly_ended, no_poly, poly_level, add_monomial, add_factor, add_argument, behind_poly, behind_part, first_coefficient, head_ended, poly_step}
use Rattle.wh_cert_parts.proofs.BigNumbers.{begins_big_spelled, first_big, next_big, next_big_spelled}

-- what a place has read, with r behind it

-- finished monomials, a `+` behind each
abbrev pub put_added : Polynomial → List ℕ → List ℕ
put_added zero_poly r = r
put_added (plus c us p) r = decimal c ++ put_factors us (43 ∷ put_added p r)

-- and a monomial so far
abbrev pub put_present : Polynomial → ℕ → Factors → List ℕ → List ℕ
put_present p c us r = put_added p (decimal c ++ put_factors us r)

-- finished arguments, a comma behind each
abbrev pub put_later : Arguments → List ℕ → List ℕ
put_later no_arguments r = r
put_later (argument p ps) r = put_poly p (44 ∷ put_later ps r)

abbrev pub poly_front : PolyStack → List ℕ → List ℕ
poly_front outside r = r
poly_front (inside p c us x ps fs) r = poly_front fs (put_present p c us (42 ∷ 121 ∷ (decimal x ++ (40 ∷ put_later ps r))))

abbrev pub poly_seen : PolyStack → PolyPlace → List ℕ → List ℕ
poly_seen fs poly_wanted r = poly_front fs r
poly_seen fs nought r = poly_front fs (48 ∷ r)
poly_seen fs (added p) r = poly_front fs (put_added p r)
poly_seen fs (coefficient p c) r = poly_front fs (put_added p (decimal c ++ r))
poly_seen fs (factor_wanted p c us) r = poly_front fs (put_present p c us (42 ∷ r))
poly_seen fs (head_wanted p c us) r = poly_front fs (put_present p c us (42 ∷ 121 ∷ r))
poly_seen fs (head p c us x) r = poly_front fs (put_present p c us (42 ∷ 121 ∷ (decimal x ++ r)))
poly_seen fs (closed_poly p c us) r = poly_front fs (put_present p c us r)

-- what is read so far is within the limits

abbrev pub GoodPart : ℕ → Polynomial → ℕ → Factors → Type 0
GoodPart k p c us = PolyFits k p × IsBig c × FactorsFit k us

abbrev pub GoodPolys : PolyStack → Type 0
GoodPolys outside = Unit {0}
GoodPolys (inside p c us x ps fs) =
    (poly_level fs < 64) × GoodPart (poly_level fs) p c us × IsSmall x × PolysFit (poly_level fs) ps × GoodPolys fs

abbrev pub GoodPolyPlace : PolyStack → PolyPlace → Type 0
GoodPolyPlace fs poly_wanted = Unit {0}
GoodPolyPlace fs nought = Unit {0}
GoodPolyPlace fs (added p) = PolyFits (poly_level fs) p
GoodPolyPlace fs (coefficient p c) = PolyFits (poly_level fs) p × IsBig c
GoodPolyPlace fs (factor_wanted p c us) = GoodPart (poly_level fs) p c us
GoodPolyPlace fs (head_wanted p c us) = GoodPart (poly_level fs) p c us
GoodPolyPlace fs (head p c us x) = GoodPart (poly_level fs) p c us × IsSmall x
GoodPolyPlace fs (closed_poly p c us) = GoodPart (poly_level fs) p c us

-- the step leads to a good place that has read f
abbrev pub PolyNext : PolyStep → (List ℕ → List ℕ) → Type 0
PolyNext (goes fs k) f = GoodPolys fs × GoodPolyPlace fs k × ((r : List ℕ) → poly_seen fs k r ≡ f r)
PolyNext (poly_ended p b) f = PolyFits 0 p × ((r : List ℕ) → put_poly p (b ∷ r) ≡ f r)
PolyNext no_poly f = Unit {0}

if_byte : (b c : ℕ) (q : Bool) (s o : PolyStep) (f : List ℕ → List ℕ) → (q ≡ true → PolyNext s (λ r. f (c ∷ r))) → PolyNext o (λ r. f (b ∷ r)) → PolyNext (cond ((b == c) && q) s o) (λ r. f (b ∷ r))
if_byte b c q s o f so other =
    cond_both ((b == c) && q) s o (λ t. PolyNext t (λ r. f (b ∷ r)))
    (λ e. let both = and_parts (b == c) q e in subst (λ (x : ℕ). PolyNext s (λ r. f (x ∷ r))) (sym (eqb-true b c both.0)) (so both.1))
    (λ e. other)

if_just : (b c : ℕ) (s o : PolyStep) (f : List ℕ → List ℕ) → PolyNext s (λ r. f (c ∷ r)) → PolyNext o (λ r. f (b ∷ r)) → PolyNext (cond (b == c) s o) (λ r. f (b ∷ r))
if_just b c s o f so other =
    cond_both (b == c) s o (λ t. PolyNext t (λ r. f (b ∷ r)))
    (λ e. subst (λ (x : ℕ). PolyNext s (λ r. f (x ∷ r))) (sym (eqb-true b c e)) so)
    (λ e. other)

if_so : (t : Bool) (s o : PolyStep) (f : List ℕ → List ℕ) → (t ≡ true → PolyNext s f) → PolyNext o f → PolyNext (cond t s o) f
if_so t s o f so other = cond_both t s o (λ u. PolyNext u f) so (λ e. other)

next_same : (s : PolyStep) (f g : List ℕ → List ℕ) → ((r : List ℕ) → f r ≡ g r) → PolyNext s f → PolyNext s g
next_same (goes fs k) f g same n = (n.0, n.1, λ r. n.2 r ∙ same r)
next_same (poly_ended p b) f g same n = (n.0, λ r. n.1 r ∙ same r)
next_same no_poly f g same n = tt

-- one more monomial, factor, argument

pub sum_adds : (p : Polynomial) (c : ℕ) (us : Factors) (r : List ℕ) → put_sum (add_monomial p c us) r ≡ 43 ∷ put_present p c us r
sum_adds zero_poly c us r = refl
sum_adds (plus d vs p) c us r = ap (λ (s : List ℕ). 43 ∷ (decimal d ++ put_factors vs s)) (sum_adds p c us r)

pub poly_adds : (p : Polynomial) (c : ℕ) (us : Factors) (r : List ℕ) → put_poly (add_monomial p c us) r ≡ put_present p c us r
poly_adds zero_poly c us r = refl
poly_adds (plus d vs p) c us r = ap (λ (s : List ℕ). decimal d ++ put_factors vs s) (sum_adds p c us r)

added_adds : (p : Polynomial) (c : ℕ) (us : Factors) (r : List ℕ) → put_added (add_monomial p c us) r ≡ put_present p c us (43 ∷ r)
added_adds zero_poly c us r = refl
added_adds (plus d vs p) c us r = ap (λ (s : List ℕ). decimal d ++ put_factors vs (43 ∷ s)) (added_adds p c us r)

factors_add : (us : Factors) (x : ℕ) (ps : Arguments) (r : List ℕ) → put_factors (add_factor us x ps) r ≡ put_factors us (42 ∷ 121 ∷ (decimal x ++ put_polys ps r))
factors_add no_factors x ps r = refl
factors_add (times y qs us) x ps r = ap (λ (s : List ℕ). 42 ∷ 121 ∷ (decimal y ++ put_polys qs s)) (factors_add us x ps r)

later_adds : (ps : Arguments) (p : Polynomial) (r : List ℕ) → put_later (add_argument ps p) r ≡ put_later ps (put_poly p (44 ∷ r))
later_adds no_arguments p r = refl
later_adds (argument q ps) p r = ap (λ (s : List ℕ). put_poly q (44 ∷ s)) (later_adds ps p r)

more_adds : (ps : Arguments) (p : Polynomial) (r : List ℕ) → put_more (add_argument ps p) r ≡ 44 ∷ put_later ps (put_poly p (41 ∷ r))
more_adds no_arguments p r = refl
more_adds (argument q ps) p r = ap (λ (s : List ℕ). 44 ∷ put_poly q s) (more_adds ps p r)

polys_add : (ps : Arguments) (p : Polynomial) (r : List ℕ) → put_polys (add_argument ps p) r ≡ 40 ∷ put_later ps (put_poly p (41 ∷ r))
polys_add no_arguments p r = refl
polys_add (argument q ps) p r = ap (λ (s : List ℕ). 40 ∷ put_poly q s) (more_adds ps p r)

pub monomial_fits : (k : ℕ) (p : Polynomial) (c : ℕ) (us : Factors) → GoodPart k p c us → PolyFits k (add_monomial p c us)
monomial_fits k zero_poly c us g = (g.1, g.2, tt)
monomial_fits k (plus d vs p) c us g = (g.0.0, g.0.1, monomial_fits k p c us (g.0.2, g.1, g.2))

factor_fits : (k : ℕ) (us : Factors) (x : ℕ) (ps : Arguments) → FactorsFit k us → IsSmall x → PolysFit k ps → FactorsFit k (add_factor us x ps)
factor_fits k no_factors x ps h small fits = (small, fits, tt)
factor_fits k (times y qs us) x ps h small fits = (h.0, h.1, factor_fits k us x ps h.2 small fits)

argument_fits : (k : ℕ) (ps : Arguments) (p : Polynomial) → PolysFit k ps → k < 64 → PolyFits (suc k) p → PolysFit k (add_argument ps p)
argument_fits k no_arguments p h low fits = (low, fits, tt)
argument_fits k (argument q ps) p h low fits = (h.0, h.1, argument_fits k ps p h.2 low fits)

-- each step keeps: the place has read the bytes that led to it

poly_behind_kept : (fs : PolyStack) (p : Polynomial) (b : ℕ) → GoodPolys fs → PolyFits (poly_level fs) p → PolyNext (behind_poly fs p b) (λ r. poly_front fs (put_poly p (b ∷ r)))
poly_behind_kept outside p b g fits = (fits, λ r. refl)
poly_behind_kept (inside q c us x ps fs) p b g fits =
    let more = argument_fits (poly_level fs) ps p g.3 g.0 fits in
    if_just b 44 (goes (inside q c us x (add_argument ps p) fs) poly_wanted) _ (λ r. poly_front (inside q c us x ps fs) (put_poly p r))
    ((g.0, g.1, g.2, more, g.4), tt, λ r. ap (λ (s : List ℕ). poly_front fs (put_present q c us (42 ∷ 121 ∷ (decimal x ++ (40 ∷ s))))) (later_adds ps p r))
    (if_just b 41 (goes fs (closed_poly q c (add_factor us x (add_argument ps p)))) no_poly (λ r. poly_front (inside q c us x ps fs) (put_poly p r))
    (g.4, (g.1.0, g.1.1, factor_fits (poly_level fs) us x (add_argument ps p) g.1.2 g.2 more), λ r. ap (λ (s : List ℕ). poly_front fs (put_added q (decimal c ++ s))) (factors_add us x (add_argument ps p) r ∙ ap (λ (s : List ℕ). put_factors us (42 ∷ 121 ∷ (decimal x ++ s))) (polys_add ps p r)))
    tt)

part_behind_kept : (fs : PolyStack) (p : Polynomial) (c : ℕ) (us : Factors) (b : ℕ) → GoodPolys fs → GoodPart (poly_level fs) p c us → PolyNext (behind_part fs p c us b) (λ r. poly_front fs (put_present p c us (b ∷ r)))
part_behind_kept fs p c us b g part =
    let whole = monomial_fits (poly_level fs) p c us part in
    if_just b 42 (goes fs (factor_wanted p c us)) _ (λ r. poly_front fs (put_present p c us r)) (g, part, λ r. refl)
    (if_just b 43 (goes fs (added (add_monomial p c us))) _ (λ r. poly_front fs (put_present p c us r)) (g, whole, λ r. ap (poly_front fs) (added_adds p c us r))
    (next_same (behind_poly fs (add_monomial p c us) b) (λ r. poly_front fs (put_poly (add_monomial p c us) (b ∷ r))) (λ r. poly_front fs (put_present p c us (b ∷ r)))
    (λ r. ap (poly_front fs) (poly_adds p c us (b ∷ r)))
    (poly_behind_kept fs (add_monomial p c us) b g whole)))

coefficient_begun : (fs : PolyStack) (p : Polynomial) (b : ℕ) → GoodPolys fs → PolyFits (poly_level fs) p → PolyNext (first_coefficient fs p b) (λ r. poly_front fs (put_added p (b ∷ r)))
coefficient_begun fs p b g fits =
    if_so (begins_big b) (goes fs (coefficient p (b - 48))) no_poly (λ r. poly_front fs (put_added p (b ∷ r)))
    (λ e. (g, (fits, first_big b e), λ r. ap (λ (s : List ℕ). poly_front fs (put_added p s)) (begins_big_spelled b r e)))
    tt

head_behind_kept : (fs : PolyStack) (p : Polynomial) (c : ℕ) (us : Factors) (x b : ℕ) → GoodPolys fs → GoodPart (poly_level fs) p c us → IsSmall x → PolyNext (head_ended fs p c us x b) (λ r. poly_seen fs (head p c us x) (b ∷ r))
head_behind_kept fs p c us x b g part small =
    if_byte b 40 (ltb (poly_level fs) 64) (goes (inside p c us x no_arguments fs) poly_wanted) _ (poly_seen fs (head p c us x))
    (λ e. ((ltb-true (poly_level fs) 64 e, part, small, tt, g), tt, λ r. refl))
    (next_same (behind_part fs p c (add_factor us x no_arguments) b) (λ r. poly_front fs (put_present p c (add_factor us x no_arguments) (b ∷ r))) (λ r. poly_seen fs (head p c us x) (b ∷ r))
    (λ r. ap (λ (s : List ℕ). poly_front fs (put_added p (decimal c ++ s))) (factors_add us x no_arguments (b ∷ r)))
    (part_behind_kept fs p c (add_factor us x no_arguments) b g (part.0, part.1, factor_fits (poly_level fs) us x no_arguments part.2 small tt)))

pub poly_kept : (fs : PolyStack) (k : PolyPlace) (b : ℕ) → GoodPolys fs → GoodPolyPlace fs k → PolyNext (poly_step fs k b) (λ r. poly_seen fs k (b ∷ r))
poly_kept fs poly_wanted b g p =
    if_just b 48 (goes fs nought) _ (poly_seen fs poly_wanted) (g, tt, λ r. refl) (coefficient_begun fs zero_poly b g tt)
poly_kept fs nought b g p = poly_behind_kept fs zero_poly b g tt
poly_kept fs (added q) b g p = coefficient_begun fs q b g p
poly_kept fs (coefficient q c) b g p =
    if_so (goes_on_big c b) (goes fs (coefficient q (10 * c + (b - 48)))) _ (λ r. poly_seen fs (coefficient q c) (b ∷ r))
    (λ e. (g, (p.0, next_big c b p.1 e), λ r. ap (λ (s : List ℕ). poly_front fs (put_added q s)) (next_big_spelled c b r p.1 e)))
    (part_behind_kept fs q c no_factors b g (p.0, p.1, tt))
poly_kept fs (factor_wanted q c us) b g p =
    if_just b 121 (goes fs (head_wanted q c us)) no_poly (poly_seen fs (factor_wanted q c us)) (g, p, λ r. refl) tt
poly_kept fs (head_wanted q c us) b g p =
    if_so (is_digit b) (goes fs (head q c us (b - 48))) no_poly (λ r. poly_seen fs (head_wanted q c us) (b ∷ r))
    (λ e. (g, (p, first_digit_small b e), λ r. ap (λ (s : List ℕ). poly_front fs (put_present q c us (42 ∷ 121 ∷ s))) (first_digit_spelled b r e)))
    tt
poly_kept fs (head q c us x) b g p =
    if_so (goes_on x b) (goes fs (head q c us (10 * x + (b - 48)))) _ (λ r. poly_seen fs (head q c us x) (b ∷ r))
    (λ e. (g, (p.0, (goes_on_true x b e).fits), λ r. ap (λ (s : List ℕ). poly_front fs (put_present q c us (42 ∷ 121 ∷ s))) (next_digit_spelled x b r e)))
    (head_behind_kept fs q c us x b g p.0 p.1)
poly_kept fs (closed_poly q c us) b g p = part_behind_kept fs q c us b g p

-- where a list of bytes leads

pub data PolyScan : Type 0 where
  in_poly : (fs : PolyStack) (k : PolyPlace) → PolyScan
  poly_read : (p : Polynomial) (r : List ℕ) → PolyScan
  no_poly_scan : PolyScan

abbrev pub poly_scan : PolyStep → List ℕ → PolyScan
poly_scan (poly_ended p b) r = poly_read p (b ∷ r)
poly_scan no_poly r = no_poly_scan
poly_scan (goes fs k) [] = in_poly fs k
poly_scan (goes fs k) (b ∷ r) = poly_scan (poly_step fs k b) r

-- what was read is spelled

pub poly_sound : (s : PolyStep) (w : List ℕ) (f : List ℕ → List ℕ) (p : Polynomial) (r : List ℕ) → PolyNext s f → poly_scan s w ≡ poly_read p r → PolyFits 0 p × (put_poly p r ≡ f w)
poly_sound (poly_ended q b) w f p r n e =
    let same : q ≡ p = cc in
    let rest : b ∷ w ≡ r = cc in
    (subst (PolyFits 0) same n.0, sym (ap (put_poly q) rest ∙ ap (λ (o : Polynomial). put_poly o r) same) ∙ n.1 w)
poly_sound no_poly w f p r n e = absurd cc
poly_sound (goes fs k) [] f p r n e = absurd cc
poly_sound (goes fs k) (b ∷ w) f p r n e =
    poly_sound (poly_step fs k b) w (λ q. f (b ∷ q)) p r (next_same (poly_step fs k b) (λ q. poly_seen fs k (b ∷ q)) (λ q. f (b ∷ q)) (λ q. n.2 (b ∷ q)) (poly_kept fs k b n.0 n.1)) e
