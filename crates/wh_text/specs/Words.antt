-- Words, keywords, names and numbers of texts, as lists of bytes.
use Rattle.std.specs.Prelude.{ℕ, ◌≡◌, ◌≢◌, ◌+◌, ◌-◌, ◌*◌, ◌≤◌, ◌⊎◌, true, List, [], ◌∷◌, length, codes}
use Rattle.wh_types.specs.Limits.{longest_name, greatest_number}
use Rattle.wh_text.specs.Chars.{is_digit, is_start, is_part, AllPass}

-- the bytes begin with a letter or an underscore
abbrev pub Starts : List ℕ → Type 0
Starts [] = ⊥
Starts (b ∷ bs) = is_start b ≡ true

-- a word: 1 to 64 bytes, beginning with a letter or an underscore, going on with these, digits and apostrophes (ours)
pub record IsWord (bs : List ℕ) : Type 0 where
  pub starts : Starts bs
  pub parts : AllPass is_part bs
  pub short : length bs ≤ longest_name

-- the keywords
abbrev pub IsKeyword : List ℕ → Type 0
IsKeyword bs = (bs ≡ codes "sort") ⊎ (bs ≡ codes "fun") ⊎ (bs ≡ codes "rule")

-- a name is a word that is no keyword (ours)
pub record IsName (bs : List ℕ) : Type 0 where
  pub word : IsWord bs
  pub free : IsKeyword bs → ⊥

-- the number that digits spell, going on from n
abbrev pub number_from : ℕ → List ℕ → ℕ
number_from n [] = n
number_from n (b ∷ bs) = number_from (10 * n + (b - 48)) bs

-- `0`, or digits that do not begin with 0
abbrev pub NoLeadingZero : List ℕ → Type 0
NoLeadingZero [] = ⊥
NoLeadingZero (b ∷ []) = Unit {0}
NoLeadingZero (b ∷ bs) = b ≢ 48

-- the digits spell the number n, at most 65,535, and have no leading zero (ours)
pub record IsNumeral (bs : List ℕ) (n : ℕ) : Type 0 where
  pub digits : AllPass is_digit bs
  pub proper : NoLeadingZero bs
  pub value : number_from 0 bs ≡ n
  pub small : n ≤ greatest_number
