-- Numbers from 1 to 2^128 - 1, read byte by byte, whatever reads them: `first` and `behind` are a reader as a function of the bytes
-- to come, before a number and behind the digits so far.
use Rattle.std.proofs.Common.{◌≡◌, ℕ, ◌+◌, ◌-◌, ◌*◌, ◌/◌, ◌%◌, ◌^◌, ◌<◌, ◌≤◌, true, ltb, List, [], ◌∷◌, ◌++◌, ap, ◌∙◌, arith, append_assoc}
use Rattle.std.proofs.lemmas.Bool.{and_parts, and_from, ltb-true, lt-ltb}
use Rattle.std.specs.Fmt.{decimal}
use Rattle.std.proofs.lemmas.Fmt.{decimal_step_wide, decimal_by_steps_wide}
use Rattle.wh_text.specs.Chars.{is_digit}
use Rattle.wh_cert_letters.specs.Digits.{begins_big, goes_on_big}
use Rattle.wh_cert_letters.proofs.NamesAndNumbers.{digit_bounds, is_digit_48, first_digit_spelled}
use Rattle.wh_cert.specs.PolyLimits.{IsBig}

pub record ReadsBigs {R : Type 0} (first : List ℕ → R) (behind : ℕ → List ℕ → R) : Type 0 where
  pub starts : (d : ℕ) (r : List ℕ) → 0 < d → d < 10 → first ((48 + d) ∷ r) ≡ behind d r
  pub goes : (n d : ℕ) (r : List ℕ) → d < 10 → 10 * n + d < 2 ^ 128 → behind n ((48 + d) ∷ r) ≡ behind (10 * n + d) r

pub big_run : {R : Type 0} (first : List ℕ → R) (behind : ℕ → List ℕ → R) → ReadsBigs first behind → (n : ℕ) (r : List ℕ) → IsBig n → first (decimal n ++ r) ≡ behind n r
big_run first behind k n r big =
    decimal_by_steps_wide (λ (m : ℕ) (ds : List ℕ). IsBig m → (s : List ℕ) → first (ds ++ s) ≡ behind m s)
    (λ m below fits s. k.starts m s (omega (arith, fits.0)) below)
    (λ m ds some before fits s.
    ap first (append_assoc ds ((48 + m % 10) ∷ []) s)
    ∙ before (omega arith, omega (arith, fits.1)) ((48 + m % 10) ∷ s)
    ∙ k.goes (m / 10) (m % 10) s (omega arith) (omega (arith, fits.1))
    ∙ ap (λ (i : ℕ). behind i s) (omega arith))
    n (omega (arith, big.1)) big r

pub begins_big_true : (b : ℕ) → begins_big b ≡ true → (48 < b) × (b ≤ 57)
begins_big_true b h =
    let both = and_parts (is_digit b) (ltb 48 b) h in
    let bounds = digit_bounds b both.0 in
    (ltb-true 48 b both.1, bounds.1)

pub begins_big_48 : (d : ℕ) → 0 < d → d < 10 → begins_big (48 + d) ≡ true
begins_big_48 d some below = and_from (is_digit (48 + d)) (ltb 48 (48 + d)) (is_digit_48 d below) (lt-ltb 48 (48 + d) (omega arith))

pub begins_big_spelled : (b : ℕ) (r : List ℕ) → begins_big b ≡ true → decimal (b - 48) ++ r ≡ b ∷ r
begins_big_spelled b r h = first_digit_spelled b r (and_parts (is_digit b) (ltb 48 b) h).0

pub first_big : (b : ℕ) → begins_big b ≡ true → IsBig (b - 48)
first_big b h = let bounds = begins_big_true b h in (omega (arith, bounds.0), omega (arith, bounds.1))

-- what the test for a further digit of such a number says
pub record GoesOnBig (n b : ℕ) : Type 0 where
  pub least : 48 ≤ b
  pub most : b ≤ 57
  pub fits : 10 * n + (b - 48) < 2 ^ 128

pub goes_on_big_true : (n b : ℕ) → goes_on_big n b ≡ true → GoesOnBig n b
goes_on_big_true n b h =
    let both = and_parts (is_digit b) (ltb (10 * n + (b - 48)) (2 ^ 128)) h in
    let bounds = digit_bounds b both.0 in
    record { least = bounds.0; most = bounds.1; fits = ltb-true (10 * n + (b - 48)) (2 ^ 128) both.1 }

pub goes_on_big_48 : (n d : ℕ) → d < 10 → 10 * n + d < 2 ^ 128 → goes_on_big n (48 + d) ≡ true
goes_on_big_48 n d below fits =
    let least : 10 * n + (48 + d - 48) < 2 ^ 128 = omega (arith, fits) in
    and_from (is_digit (48 + d)) (ltb (10 * n + (48 + d - 48)) (2 ^ 128)) (is_digit_48 d below) (lt-ltb (10 * n + (48 + d - 48)) (2 ^ 128) least)

pub next_big : (n b : ℕ) → IsBig n → goes_on_big n b ≡ true → IsBig (10 * n + (b - 48))
next_big n b big h = let is = goes_on_big_true n b h in (omega (arith, big.0), is.fits)

pub next_big_spelled : (n b : ℕ) (r : List ℕ) → IsBig n → goes_on_big n b ≡ true → decimal (10 * n + (b - 48)) ++ r ≡ decimal n ++ b ∷ r
next_big_spelled n b r big h =
    let is = goes_on_big_true n b h in
    let m : ℕ = 10 * n + (b - 48) in
    let front : m / 10 ≡ n = omega (arith, is.least, is.most) in
    let last : 48 + m % 10 ≡ b = omega (arith, is.least, is.most) in
    ap (λ (ds : List ℕ). ds ++ r) (decimal_step_wide m (omega (arith, big.0)) (omega (arith, is.fits)))
    ∙ append_assoc (decimal (m / 10)) ((48 + m % 10) ∷ []) r
    ∙ ap (λ (i : ℕ). decimal i ++ (48 + m % 10) ∷ r) front
    ∙ ap (λ (x : ℕ). decimal n ++ x ∷ r) last
