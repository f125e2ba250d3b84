-- Pieces of a text that are cut into pieces of its tokens, whatever comes behind them.
use Rattle.std.specs.Prelude.{ℕ, ◌≡◌, List, map}
use Rattle.wh_text.specs.Chars.{is_part, Stops}
use Rattle.wh_text.specs.Tokens.{Token, whole, Cuts}
use Rattle.wh_read.specs.Spelled.{Placed, placed}

-- from the place `at` on, what is put before r is cut into tokens that are put before those of r, which begins at the
-- place `end`; r may be any bytes of which `fits` holds
pub record Cutting (fits : List ℕ → Type 0) (at end : ℕ) (put : List ℕ → List ℕ) (put_tokens : List Placed → List Placed) : Type 0 where
  pub cut : (r : List ℕ) (ts : List Token) → fits r → Cuts end r ts whole
      → (us : List Token) × Cuts at (put r) us whole × (map placed us ≡ put_tokens (map placed ts))

-- any bytes
abbrev pub Any : List ℕ → Type 0
Any r = Unit {0}

-- the next byte goes on no name and no number
abbrev pub NoPart : List ℕ → Type 0
NoPart = Stops is_part
