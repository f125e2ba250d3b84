-- Printers append: a list of bytes becomes longer by the spelling of what is printed (ours).
use Rattle.std.specs.Prelude.{ℕ, ◌≡◌, List, ◌++◌}

-- the new bytes are the old ones with a spelling behind them, which is given as `put`: the spelling with r behind it
pub record Pushes (old new : List ℕ) (put : List ℕ → List ℕ) : Type 0 where
  pub behind : (r : List ℕ) → new ++ r ≡ old ++ put r
