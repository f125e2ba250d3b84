-- Runs of bytes that pass a test, and the number that digits spell.
use Rattle.std.proofs.Common.{◌≡◌, ℕ, suc, ◌+◌, ◌*◌, ◌-◌, ◌<◌, ◌≤◌, Bool, true, false, cond, ◌||◌, ◌==◌, List, [], ◌∷◌, length, get_or, take, drop, refl, sym, ap, ◌∙◌, subst, inr, arith, add-one, drop-cons}
use Rattle.std.specs.List.{prefix_len}
use Rattle.wh_text.specs.Chars.{is_digit, is_start, is_part, AllPass, Stops}
use Rattle.wh_text.specs.Words.{Starts, number_from}
use Rattle.wh_text.specs.Tokens.{BadDigits}

passes_at : (t : ℕ → Bool) (x : ℕ) (xs : List ℕ) (v : Bool) → t x ≡ v → AllPass t (take (prefix_len t xs) xs) → AllPass t (take (cond v (1 + prefix_len t xs) 0) (x ∷ xs))
passes_at t x xs true e h =
    let next : suc (prefix_len t xs) ≡ 1 + prefix_len t xs = omega arith in
    subst (λ (n : ℕ). AllPass t (take n (x ∷ xs))) next (e, h)
passes_at t x xs false e h = tt

stops_at : (t : ℕ → Bool) (x : ℕ) (xs : List ℕ) (v : Bool) → t x ≡ v → Stops t (drop (prefix_len t xs) xs) → Stops t (drop (cond v (1 + prefix_len t xs) 0) (x ∷ xs))
stops_at t x xs true e h =
    let next : suc (prefix_len t xs) ≡ 1 + prefix_len t xs = omega arith in
    subst (λ (n : ℕ). Stops t (drop n (x ∷ xs))) next h
stops_at t x xs false e h = e

-- the longest front that passes: all of it does, and what comes next does not
pub run_passes : (t : ℕ → Bool) (xs : List ℕ) → AllPass t (take (prefix_len t xs) xs)
run_passes t [] = tt
run_passes t (x ∷ xs) = passes_at t x xs (t x) refl (run_passes t xs)

pub run_stops : (t : ℕ → Bool) (xs : List ℕ) → Stops t (drop (prefix_len t xs) xs)
run_stops t [] = tt
run_stops t (x ∷ xs) = stops_at t x xs (t x) refl (run_stops t xs)

-- a front that begins with a letter or an underscore
pub starts_run : (b : ℕ) (bs : List ℕ) → is_start b ≡ true → Starts (take (prefix_len is_part (b ∷ bs)) (b ∷ bs))
starts_run b bs start =
    let next : suc (prefix_len is_part bs) ≡ 1 + prefix_len is_part bs = omega arith in
    let first : Starts (take (1 + prefix_len is_part bs) (b ∷ bs)) = subst (λ (n : ℕ). Starts (take n (b ∷ bs))) next start in
    let goes_on : true ≡ is_part b = sym (ap (λ (v : Bool). v || (is_digit b || (b == 39))) start) in
    subst (λ (v : Bool). Starts (take (cond v (1 + prefix_len is_part bs) 0) (b ∷ bs))) goes_on first

pub number_from_grows : (bs : List ℕ) (n : ℕ) → n ≤ number_from n bs
number_from_grows [] n = omega arith
number_from_grows (b ∷ bs) n = omega (arith, number_from_grows bs (10 * n + (b - 48)))

number_from-drop : (ds : List ℕ) (i value : ℕ) → i < length ds → number_from value (drop i ds) ≡ number_from (10 * value + (get_or ds i 0 - 48)) (drop (i + 1) ds)
number_from-drop ds i value below = rw (drop-cons ds i 0 below, ← add-one) refl

-- digits of which the value has passed the limit already spell too great a number
pub past_limit : (ds : List ℕ) (i value : ℕ) → number_from value (drop i ds) ≡ number_from 0 ds → i < length ds → 65535 < 10 * value + (get_or ds i 0 - 48) → BadDigits ds
past_limit ds i value goes below past =
    let step = sym (number_from-drop ds i value below) ∙ goes in
    let grown = number_from_grows (drop (i + 1) ds) (10 * value + (get_or ds i 0 - 48)) in
    let great : 65535 < number_from 0 ds = omega arith in
    inr great
