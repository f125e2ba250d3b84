-- A reader of argument filters, byte by byte, as a function: where it stands, and where the next byte leads. It mirrors
-- the code; the laws tie it to the text.
use Rattle.std.specs.Prelude.{ℕ, ◌+◌, ◌-◌, ◌*◌, ◌==◌, cond, List, [], ◌∷◌, ◌++◌, codes}
use Rattle.wh_text.specs.Chars.{space, is_digit}
use Rattle.wh_cert_letters.specs.Digits.{goes_on}
use Rattle.wh_order_inference.specs.FilterText.{WrittenFilter, keeps, picks}

-- the words that a filter begins with
pub data Word : Type 0 where
  keep_word pick_word : Word

-- what was read: nothing; a word but for its last bytes; `keep `; this and digits; this, the places that have ended,
-- and a space; this and digits; `pick `; this and digits
pub data Place : Type 0 where
  wanted : Place
  word : (left : List ℕ) (w : Word) → Place
  prec_wanted : Place
  prec : (n : ℕ) → Place
  place_wanted : (p : ℕ) (ns : List ℕ) → Place
  place : (p : ℕ) (ns : List ℕ) (n : ℕ) → Place
  pick_wanted : Place
  picked : (n : ℕ) → Place

-- where a byte leads: on; out of the filter, which ended before the byte that is handed on; nowhere
pub data Step : Type 0 where
  goes : (k : Place) → Step
  ended : (f : WrittenFilter) (b : ℕ) → Step
  nowhere : Step

abbrev pub spelling : Word → List ℕ
spelling keep_word = codes "keep "
spelling pick_word = codes "pick "

abbrev pub behind_word : Word → Place
behind_word keep_word = prec_wanted
behind_word pick_word = pick_wanted

-- a byte of a word was read, and these are left
abbrev pub word_on : List ℕ → Word → Place
word_on [] w = behind_word w
word_on (x ∷ xs) w = word (x ∷ xs) w

-- a number of a filter that keeps has ended before the byte
abbrev pub behind_number : ℕ → List ℕ → ℕ → Step
behind_number p ns b = cond (b == space) (goes (place_wanted p ns)) (ended (keeps p ns) b)

abbrev pub step : Place → ℕ → Step
step wanted b =
    cond (b == 107) (goes (word (codes "eep ") keep_word)) (cond (b == 112) (goes (word (codes "ick ") pick_word)) nowhere)
step (word [] w) b = nowhere
step (word (x ∷ xs) w) b = cond (b == x) (goes (word_on xs w)) nowhere
step prec_wanted b = cond (is_digit b) (goes (prec (b - 48))) nowhere
step (prec n) b = cond (goes_on n b) (goes (prec (10 * n + (b - 48)))) (behind_number n [] b)
step (place_wanted p ns) b = cond (is_digit b) (goes (place p ns (b - 48))) nowhere
step (place p ns n) b = cond (goes_on n b) (goes (place p ns (10 * n + (b - 48)))) (behind_number p (ns ++ n ∷ []) b)
step pick_wanted b = cond (is_digit b) (goes (picked (b - 48))) nowhere
step (picked n) b = cond (goes_on n b) (goes (picked (10 * n + (b - 48)))) (ended (picks n) b)

-- where a list of bytes leads: the filter may go on; it was read, and these bytes are left; no filter begins so
pub data Scan : Type 0 where
  reading : (k : Place) → Scan
  read : (f : WrittenFilter) (r : List ℕ) → Scan
  failed : Scan

abbrev pub scan : Step → List ℕ → Scan
scan (ended f b) r = read f (b ∷ r)
scan nowhere r = failed
scan (goes k) [] = reading k
scan (goes k) (b ∷ r) = scan (step k b) r

-- before a filter
abbrev pub start : Step
start = goes wanted
