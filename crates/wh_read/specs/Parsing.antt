-- What tokens say, and the first token at which they can't be a system text or nest too deep.
use Rattle.std.specs.Prelude.{ℕ, ◌≡◌, ◌+◌, ◌<◌, ◌≤◌, List, ◌++◌, length, take}
use Rattle.wh_system_parts.specs.Parts.{RParts}
use Rattle.wh_read.specs.Written.{WSystem}
use Rattle.wh_read.specs.Spelled.{Placed, spelled}
use Rattle.wh_read.specs.Nesting.{SystemFits}
use Rattle.wh_read.specs.Raw.{said}

-- the tokens spell a system text that nests within the limits, and it says these parts
pub record Parses (ts : List Placed) (parts : RParts) : Type 0 where
  pub written : WSystem
  pub fits : SystemFits written
  pub spelling : ts ≡ spelled written
  pub parts_are : parts ≡ said written

-- some system text begins with the tokens, however deep it nests
abbrev pub Begins : List Placed → Type 0
Begins ts = (w : WSystem) × (r : List Placed) × (ts ++ r ≡ spelled w)

-- some system text within the limits on nesting begins with the tokens
abbrev pub BeginsWithin : List Placed → Type 0
BeginsWithin ts = (w : WSystem) × (r : List Placed) × SystemFits w × (ts ++ r ≡ spelled w)

-- the token number n is the first that no system text has behind those before it; n is the number of tokens where the
-- text ends too early
pub record SyntaxAt (ts : List Placed) (n : ℕ) : Type 0 where
  pub within : n ≤ length ts
  pub begins : BeginsWithin (take n ts)
  pub none_goes_on : n < length ts → Begins (take (n + 1) ts) → ⊥
  pub ends_early : n ≡ length ts → (w : WSystem) → ts ≡ spelled w → ⊥

-- the token number n opens one level too many
pub record TooDeepAt (ts : List Placed) (n : ℕ) : Type 0 where
  pub within : n < length ts
  pub begins : BeginsWithin (take n ts)
  pub goes_on : Begins (take (n + 1) ts)
  pub too_deep : BeginsWithin (take (n + 1) ts) → ⊥
