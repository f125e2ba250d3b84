-- Names are no numbers, and what passes a test of each byte.
use Rattle.std.proofs.Common.{ℕ, ◌≡◌, ◌<◌, ◌≤◌, ◌^◌, ◌++◌, Bool, true, false, ◌&&◌, List, [], ◌∷◌, get_or, codes, append-nil, refl, sym, ◌∙◌, ap, arith}
use Rattle.std.specs.Fmt.{decimal}
use Rattle.std.specs.List.{list_all}
use Rattle.std.proofs.lemmas.Fmt.{decimal_is_IsNumeral, decimal_nonempty}
use Rattle.std.proofs.lemmas.Str.Parse.{digit_at}
use Rattle.std.proofs.lemmas.Bool.Decides.{nat_tests}
use Rattle.wh_text.specs.Chars.{AllPass, is_part, is_start}
use Rattle.wh_text.specs.Words.{IsWord}

-- a number begins with a digit
digit_first : (n : ℕ) → n < 2 ^ 64 → get_or (decimal n) 0 0 ≤ 57
digit_first n h =
    let d = digit_at (decimal n) 0 (decimal_is_IsNumeral n h).0.1 (decimal_nonempty n h) in
    omega (arith, d.1)

start_high : (b : ℕ) → is_start b ≡ true → 57 < b
start_high b h = grind (arith, nat_tests)

-- a word does not
word_high : (w m : List ℕ) → IsWord w → 57 < get_or (w ++ m) 0 0
word_high [] m h = absurd h.starts
word_high (b ∷ bs) m h = start_high b h.starts

-- so no word is a number, whatever comes behind it
number_no_front : (n : ℕ) (w m : List ℕ) → n < 2 ^ 64 → IsWord w → decimal n ≡ w ++ m → ⊥
number_no_front n w m small h e =
    let low = digit_first n small in
    let high = word_high w m h in
    let same : get_or (decimal n) 0 0 ≡ get_or (w ++ m) 0 0 = ap (λ (t : List ℕ). get_or t 0 0) e in
    omega arith

pub number_no_word : (n : ℕ) (w : List ℕ) → n < 2 ^ 32 → IsWord w → decimal n ≡ w → ⊥
number_no_word n w small h e = number_no_front n w [] (omega arith) h (e ∙ sym (append-nil w))

pub number_no_marked : (n : ℕ) (w : List ℕ) → n < 2 ^ 32 → IsWord w → decimal n ≡ w ++ codes "#" → ⊥
number_no_marked n w small h e = number_no_front n w (codes "#") (omega arith) h e

all_cons : (t : ℕ → Bool) (x : ℕ) (xs : List ℕ) (v : Bool) → t x ≡ v → (v && list_all t xs) ≡ true → (list_all t xs ≡ true → AllPass t xs) → (t x ≡ true) × AllPass t xs
all_cons t x xs true e h rest = (e, rest h)
all_cons t x xs false e h rest = cc

-- a test of each byte
pub all_passes : (t : ℕ → Bool) (xs : List ℕ) → list_all t xs ≡ true → AllPass t xs
all_passes t [] h = tt
all_passes t (x ∷ xs) h = all_cons t x xs (t x) refl h (all_passes t xs)

pub passes_all : (t : ℕ → Bool) (xs : List ℕ) → AllPass t xs → list_all t xs ≡ true
passes_all t [] h = refl
passes_all t (x ∷ xs) h = rw (h.0, passes_all t xs h.1) refl
