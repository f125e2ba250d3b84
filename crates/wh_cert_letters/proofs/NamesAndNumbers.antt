-- Names and numbers, read byte by byte, whatever reads them: `first` and `behind` are a reader as a function of the bytes to
-- come, before a name or number and behind the letters or digits so far.
use Rattle.std.proofs.Common.{◌≡◌, ℕ, ◌+◌, ◌-◌, ◌*◌, ◌/◌, ◌%◌, ◌<◌, ◌≤◌, Bool, true, ◌&&◌, ◌||◌, ◌==◌, ltb, leb, List, [], ◌∷◌, ◌++◌, length, sym, ap, ◌∙◌, subst, arith, append_assoc, append-nil, length-append}
use Rattle.std.proofs.lemmas.Bool.{and_parts, and_from, leb-true, ltb-true, le-leb, lt-ltb}
use Rattle.std.specs.Fmt.{decimal}
use Rattle.std.proofs.lemmas.Fmt.{decimal_digit, decimal_step, decimal_by_steps}
use Rattle.wh_text.specs.Chars.{is_digit, is_start, is_part, AllPass}
use Rattle.wh_text.specs.Words.{Starts, IsWord}
use Rattle.wh_cert_letters.specs.Digits.{goes_on}

-- names

pub record ReadsNames {R : Type 0} (first : List ℕ → R) (behind : List ℕ → List ℕ → R) : Type 0 where
  pub starts : (b : ℕ) (r : List ℕ) → is_start b ≡ true → first (b ∷ r) ≡ behind (b ∷ []) r
  pub goes : (xs : List ℕ) (b : ℕ) (r : List ℕ) → is_part b ≡ true → length xs < 64 → behind xs (b ∷ r) ≡ behind (xs ++ b ∷ []) r

pub start_is_part : (b : ℕ) → is_start b ≡ true → is_part b ≡ true
start_is_part b h = ap (λ (v : Bool). v || (is_digit b || (b == 39))) h

name_goes : {R : Type 0} (first : List ℕ → R) (behind : List ℕ → List ℕ → R) → ReadsNames first behind → (pre xs r : List ℕ) → AllPass is_part xs → length pre + length xs ≤ 64 → behind pre (xs ++ r) ≡ behind (pre ++ xs) r
name_goes first behind k pre [] r p s = ap (λ (ys : List ℕ). behind ys r) (sym (append-nil pre))
name_goes first behind k pre (x ∷ xs) r p s =
    let short : length (pre ++ x ∷ []) + length xs ≤ 64 = omega (arith, length-append pre (x ∷ [])) in
    k.goes pre x (xs ++ r) p.0 (omega arith)
    ∙ name_goes first behind k (pre ++ x ∷ []) xs r p.1 short
    ∙ ap (λ (ys : List ℕ). behind ys r) (append_assoc pre (x ∷ []) xs)

pub name_run : {R : Type 0} (first : List ℕ → R) (behind : List ℕ → List ℕ → R) → ReadsNames first behind → (xs r : List ℕ) → IsWord xs → first (xs ++ r) ≡ behind xs r
name_run first behind k [] r w = absurd w.starts
name_run first behind k (x ∷ xs) r w =
    let short : length (x ∷ []) + length xs ≤ 64 = omega (arith, w.short) in
    k.starts x (xs ++ r) w.starts ∙ name_goes first behind k (x ∷ []) xs r w.parts.1 short

pub first_letter : (b : ℕ) → is_start b ≡ true → IsWord (b ∷ [])
first_letter b h = record { starts = h; parts = (start_is_part b h, tt); short = omega arith }

starts_more : (xs : List ℕ) (b : ℕ) → Starts xs → Starts (xs ++ b ∷ [])
starts_more [] b h = absurd h
starts_more (x ∷ xs) b h = h

parts_more : (xs : List ℕ) (b : ℕ) → AllPass is_part xs → is_part b ≡ true → AllPass is_part (xs ++ b ∷ [])
parts_more [] b h p = (p, tt)
parts_more (x ∷ xs) b h p = (h.0, parts_more xs b h.1 p)

pub next_letter : (xs : List ℕ) (b : ℕ) → IsWord xs → (is_part b && ltb (length xs) 64) ≡ true → IsWord (xs ++ b ∷ [])
next_letter xs b w h =
    let both = and_parts (is_part b) (ltb (length xs) 64) h in
    let short : length xs < 64 = ltb-true (length xs) 64 both.1 in
    record { starts = starts_more xs b w.starts; parts = parts_more xs b w.parts both.0; short = omega (arith, length-append xs (b ∷ [])) }

pub word_grows : (old xs ys : List ℕ) (b : ℕ) → IsWord xs → xs ≡ old → (is_part b && ltb (length old) 64) ≡ true → ys ≡ xs ++ b ∷ [] → IsWord ys
word_grows old xs ys b w same goes e =
    subst IsWord (sym e) (next_letter xs b w (subst (λ (zs : List ℕ). (is_part b && ltb (length zs) 64) ≡ true) (sym same) goes))

-- numbers

pub record ReadsNumbers {R : Type 0} (first : List ℕ → R) (behind : ℕ → List ℕ → R) : Type 0 where
  pub starts : (d : ℕ) (r : List ℕ) → d < 10 → first ((48 + d) ∷ r) ≡ behind d r
  pub goes : (n d : ℕ) (r : List ℕ) → 0 < n → d < 10 → 10 * n + d ≤ 65535 → behind n ((48 + d) ∷ r) ≡ behind (10 * n + d) r

pub number_run : {R : Type 0} (first : List ℕ → R) (behind : ℕ → List ℕ → R) → ReadsNumbers first behind → (n : ℕ) (r : List ℕ) → n ≤ 65535 → first (decimal n ++ r) ≡ behind n r
number_run first behind k n r small =
    decimal_by_steps (λ (m : ℕ) (ds : List ℕ). m ≤ 65535 → (s : List ℕ) → first (ds ++ s) ≡ behind m s)
    (λ m below fits s. k.starts m s below)
    (λ m ds some before fits s.
    ap first (append_assoc ds ((48 + m % 10) ∷ []) s)
    ∙ before (omega arith) ((48 + m % 10) ∷ s)
    ∙ k.goes (m / 10) (m % 10) s (omega arith) (omega arith) (omega arith)
    ∙ ap (λ (i : ℕ). behind i s) (omega arith))
    n (omega arith) small r

pub digit_bounds : (b : ℕ) → is_digit b ≡ true → (48 ≤ b) × (b ≤ 57)
digit_bounds b h =
    let both = and_parts (leb 48 b) (leb b 57) h in
    (leb-true 48 b both.0, leb-true b 57 both.1)

pub is_digit_48 : (d : ℕ) → d < 10 → is_digit (48 + d) ≡ true
is_digit_48 d h = and_from (leb 48 (48 + d)) (leb (48 + d) 57) (le-leb 48 (48 + d) (omega arith)) (le-leb (48 + d) 57 (omega arith))

pub first_digit_spelled : (b : ℕ) (r : List ℕ) → is_digit b ≡ true → decimal (b - 48) ++ r ≡ b ∷ r
first_digit_spelled b r h =
    let bounds = digit_bounds b h in
    let same : 48 + (b - 48) ≡ b = omega arith in
    ap (λ (ds : List ℕ). ds ++ r) (decimal_digit (b - 48) (omega arith)) ∙ ap (λ (x : ℕ). x ∷ r) same

pub first_digit_small : (b : ℕ) → is_digit b ≡ true → b - 48 ≤ 65535
first_digit_small b h = let bounds = digit_bounds b h in omega arith

-- what the test for a further digit says
pub record GoesOn (n b : ℕ) : Type 0 where
  pub least : 48 ≤ b
  pub most : b ≤ 57
  pub some : 0 < n
  pub fits : 10 * n + (b - 48) ≤ 65535

pub goes_on_true : (n b : ℕ) → goes_on n b ≡ true → GoesOn n b
goes_on_true n b h =
    let both = and_parts (is_digit b) (ltb 0 n && leb (10 * n + (b - 48)) 65535) h in
    let bounds = digit_bounds b both.0 in
    let others = and_parts (ltb 0 n) (leb (10 * n + (b - 48)) 65535) both.1 in
    record { least = bounds.0; most = bounds.1; some = ltb-true 0 n others.0; fits = leb-true (10 * n + (b - 48)) 65535 others.1 }

pub goes_on_48 : (n d : ℕ) → 0 < n → d < 10 → 10 * n + d ≤ 65535 → goes_on n (48 + d) ≡ true
goes_on_48 n d some below fits =
    let least : 10 * n + (48 + d - 48) ≤ 65535 = omega arith in
    and_from (is_digit (48 + d)) (ltb 0 n && leb (10 * n + (48 + d - 48)) 65535) (is_digit_48 d below) (and_from (ltb 0 n) (leb (10 * n + (48 + d - 48)) 65535) (lt-ltb 0 n some) (le-leb (10 * n + (48 + d - 48)) 65535 least))

pub next_digit_spelled : (n b : ℕ) (r : List ℕ) → goes_on n b ≡ true → decimal (10 * n + (b - 48)) ++ r ≡ decimal n ++ b ∷ r
next_digit_spelled n b r h =
    let is = goes_on_true n b h in
    let m : ℕ = 10 * n + (b - 48) in
    let front : m / 10 ≡ n = omega (arith, is.least, is.most) in
    let last : 48 + m % 10 ≡ b = omega (arith, is.least, is.most) in
    ap (λ (ds : List ℕ). ds ++ r) (decimal_step m (omega (arith, is.some)) (omega (arith, is.fits)))
    ∙ append_assoc (decimal (m / 10)) ((48 + m % 10) ∷ []) r
    ∙ ap (λ (i : ℕ). decimal i ++ (48 + m % 10) ∷ r) front
    ∙ ap (λ (x : ℕ). decimal n ++ x ∷ r) last
