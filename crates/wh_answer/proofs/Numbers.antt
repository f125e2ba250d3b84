-- How the digits of a number begin, and what text is read as one.
use Rattle.std.proofs.Common.{ℕ, suc, zero, ◌≡◌, ◌≢◌, ◌<◌, ◌^◌, List, [], ◌∷◌, length, refl, get_or, Result, Ok, Err, sym, ◌∙◌, ap, arith, subst}
use Rattle.std.specs.Fmt.{decimal}
use Rattle.std.specs.Result.{OkIff}
use Rattle.std.specs.Str.Parse.{AllDigits, digits_value, ParsesUnsigned}
use Rattle.wh_answer.specs.Words.{BeginsNumber}
use Rattle.std.proofs.lemmas.Fmt.{decimal_digit, decimal_nonempty, first_decimal, decimal-digits_value, parse-decimal}
use Rattle.std.proofs.lemmas.Str.Parse.{IsNumeralModel, numerals_by_value, tells_digits, parse_plain}

own : IsNumeralModel (AllDigits 10) (digits_value 10)
own = numerals_by_value (AllDigits 10) tells_digits

no_plus : (word : List ℕ) → BeginsNumber word → get_or word 0 0 ≢ 43
no_plus [] h = absurd h
no_plus (b ∷ []) h = h
no_plus (b ∷ c ∷ bs) h = h.0

no_zero : (word : List ℕ) → BeginsNumber word → get_or word 0 0 ≡ 48 → length word ≡ 1
no_zero [] h e = absurd h
no_zero (b ∷ []) h e = refl
no_zero (b ∷ c ∷ bs) h e = absurd (h.1 e)

begins_by : (word : List ℕ) → 0 < length word → get_or word 0 0 ≢ 43 → (get_or word 0 0 ≡ 48 → length word ≡ 1) → BeginsNumber word
begins_by [] l p z = omega arith
begins_by (b ∷ []) l p z = p
begins_by (b ∷ c ∷ bs) l p z = (p, λ e. let two = z e in omega arith)

-- the digits of a number begin with no `+`, and with 0 only where there is no other digit
pub begins : (n : ℕ) → n < 2 ^ 64 → BeginsNumber (decimal n)
begins zero h = rw (decimal_digit 0 (omega arith)) (λ e. omega arith)
begins (suc n) h =
    let f = first_decimal (suc n) (omega arith) h in
    begins_by (decimal (suc n)) (decimal_nonempty (suc n) h) (λ e. omega arith) (λ e. omega arith)

-- so a word with another front spells none
pub bad_front : (word : List ℕ) → (BeginsNumber word → ⊥) → (n : ℕ) → n < 2 ^ 64 → decimal n ≡ word → ⊥
bad_front word wrong n small e = wrong (subst BeginsNumber e (begins n small))

of_ok : {E : Type 0} (r : Result ℕ E) (n : ℕ) → r ≡ Ok n → (P : Type 0) (v : ℕ) → OkIff r P v → P × (n ≡ v)
of_ok (Ok x) n is P v h = let same : x ≡ n = cc in (h.0, sym same ∙ h.1)
of_ok (Err e) n is P v h = cc

-- what is read as a number is how that number is spelled
pub spelled : {E : Type 0} (word : List ℕ) (r : Result ℕ E) (n : ℕ) → ParsesUnsigned 64 10 word r → r ≡ Ok n → BeginsNumber word → (n < 2 ^ 64) × (decimal n ≡ word)
spelled word r n h is front =
    let q = of_ok r n is _ _ (parse_plain own 64 word r h (no_plus word front)) in
    let same : n ≡ digits_value 10 word = q.1 in
    let small : digits_value 10 word < 2 ^ 64 = q.0.2 in
    (omega arith, ap decimal same ∙ decimal-digits_value own word q.0.0 q.0.1 (no_zero word front) small)

-- what is not read as a number is not how one is spelled
pub not_spelled : {E : Type 0} (word : List ℕ) (r : Result ℕ E) (e : E) → ParsesUnsigned 64 10 word r → r ≡ Err e → (n : ℕ) → n < 2 ^ 64 → decimal n ≡ word → ⊥
not_spelled word r e h is n small s = let p = parse-decimal 64 n word r small small (sym s) h in cc
