-- How bytes are cut into tokens, and the first byte that can't be (ours).
use Rattle.std.specs.Prelude.{ℕ, ◌≡◌, ◌+◌, ◌<◌, ◌≤◌, ◌⊎◌, true, false, List, [], ◌∷◌, ◌++◌, length}
use Rattle.wh_types.specs.Limits.{longest_name, greatest_number}
use Rattle.wh_text.specs.Chars.{is_space, is_digit, is_start, is_part, is_comment, is_sign, AllPass, Stops}
use Rattle.wh_text.specs.Words.{Starts, IsKeyword, IsNumeral, NoLeadingZero, number_from}

-- what a token is: a name or keyword with its bytes, a number behind `$` or `%`, a sign with its bytes
pub data Kind : Type 0 where
  name keyword : (bytes : List ℕ) → Kind
  dollar percent : (n : ℕ) → Kind
  sign : (bytes : List ℕ) → Kind

-- a token stands from one byte up to, not including, another
pub record Token : Type 0 where
  pub kind : Kind
  pub from : ℕ
  pub to : ℕ

-- how a text ends: with all of it cut, or at its first fault, of a kind and with its offset
pub data Ending : Type 0 where
  whole : Ending
  bad_byte bad_number name_too_long : (at : ℕ) → Ending

-- the byte begins a number token: `$` or `%`
abbrev pub Marks : ℕ → (ℕ → Kind) → Type 0
Marks b kind = ((b ≡ 36) × (kind ≡ dollar)) ⊎ ((b ≡ 37) × (kind ≡ percent))

-- `->` or `=>` begins with the byte
abbrev pub BeginsArrow : ℕ → Type 0
BeginsArrow b = (b ≡ 45) ⊎ (b ≡ 61)

-- no digit comes next
abbrev pub NoDigit : List ℕ → Type 0
NoDigit = Stops is_digit

-- no `>` comes next
abbrev pub NoHead : List ℕ → Type 0
NoHead [] = Unit {0}
NoHead (b ∷ bs) = b ≡ 62 → ⊥

-- the byte begins nothing: no token, no comment, and it is no white space
pub record BeginsNothing (b : ℕ) : Type 0 where
  pub space : is_space b ≡ false
  pub start : is_start b ≡ false
  pub sign : is_sign b ≡ false
  pub arrow : BeginsArrow b → ⊥
  pub dollar : b ≡ 36 → ⊥
  pub percent : b ≡ 37 → ⊥
  pub comment : b ≡ 35 → ⊥

-- the digits of a number token are too many or too great: they begin with 0 and are more than one, or spell more than
-- 65,535
abbrev pub BadDigits : List ℕ → Type 0
BadDigits ds = ((NoLeadingZero ds → ⊥) ⊎ (greatest_number < number_from 0 ds))

-- `Cuts at bytes tokens ending`: from the offset `at` on, the bytes are cut into these tokens, from the left, words and
-- digits as long as they go on, up to that ending; the tokens are those before it
pub data Cuts : ℕ → List ℕ → List Token → Ending → Type 0 where
  ended : {at : ℕ} → Cuts at [] [] whole
  space : {at b : ℕ} {r : List ℕ} {ts : List Token} {e : Ending} → is_space b ≡ true → Cuts (at + 1) r ts e → Cuts at (b ∷ r) ts e
  comment : {at : ℕ} {bytes : List ℕ} (r : List ℕ) {ts : List Token} {e : Ending} (c : List ℕ) → AllPass is_comment c
      → Stops is_comment r → bytes ≡ 35 ∷ (c ++ r) → Cuts (at + 1 + length c) r ts e → Cuts at bytes ts e
  word : {at : ℕ} {bytes : List ℕ} (r : List ℕ) {ts : List Token} {e : Ending} (w : List ℕ) (kind : Kind) → Starts w → AllPass is_part w
      → Stops is_part r → bytes ≡ w ++ r → length w ≤ longest_name → (IsKeyword w × (kind ≡ keyword w)) ⊎ ((IsKeyword w → ⊥) × (kind ≡ name w))
      → Cuts (at + length w) r ts e → Cuts at bytes (record { kind = kind; from = at; to = at + length w } ∷ ts) e
  number : {at b n : ℕ} {bytes : List ℕ} (r : List ℕ) {ts : List Token} {e : Ending} (ds : List ℕ) (kind : ℕ → Kind) → Marks b kind
      → IsNumeral ds n → NoDigit r → bytes ≡ b ∷ (ds ++ r) → Cuts (at + 1 + length ds) r ts e
      → Cuts at bytes (record { kind = kind n; from = at; to = at + 1 + length ds } ∷ ts) e
  one_sign : {at b : ℕ} {r : List ℕ} {ts : List Token} {e : Ending} → is_sign b ≡ true → Cuts (at + 1) r ts e
      → Cuts at (b ∷ r) (record { kind = sign (b ∷ []); from = at; to = at + 1 } ∷ ts) e
  arrow : {at b : ℕ} {r : List ℕ} {ts : List Token} {e : Ending} → BeginsArrow b → Cuts (at + 2) r ts e
      → Cuts at (b ∷ 62 ∷ r) (record { kind = sign (b ∷ 62 ∷ []); from = at; to = at + 2 } ∷ ts) e
  -- a byte that begins nothing; `-` or `=` without `>`; `$` or `%` without a digit
  nothing_begins : {at b : ℕ} {r : List ℕ} → BeginsNothing b → Cuts at (b ∷ r) [] (bad_byte at)
  no_arrow : {at b : ℕ} {r : List ℕ} → BeginsArrow b → NoHead r → Cuts at (b ∷ r) [] (bad_byte at)
  no_number : {at b : ℕ} {r : List ℕ} (kind : ℕ → Kind) → Marks b kind → NoDigit r → Cuts at (b ∷ r) [] (bad_byte at)
  -- the digits are no number; the offset is the first digit
  bad_digits : {at b : ℕ} {bytes : List ℕ} (r : List ℕ) (ds : List ℕ) (kind : ℕ → Kind) → Marks b kind → AllPass is_digit ds
      → 0 < length ds → BadDigits ds → NoDigit r → bytes ≡ b ∷ (ds ++ r) → Cuts at bytes [] (bad_number (at + 1))
  -- a word of more than 64 bytes; the offset is its first byte
  long_word : {at : ℕ} {bytes : List ℕ} (r : List ℕ) (w : List ℕ) → Starts w → AllPass is_part w → Stops is_part r → bytes ≡ w ++ r
      → longest_name < length w → Cuts at bytes [] (name_too_long at)
