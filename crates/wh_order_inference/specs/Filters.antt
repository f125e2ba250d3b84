-- Argument filters (argument filterings) of symbols, as the path order has them.
use Rattle.std.specs.Prelude.{ℕ, List}

-- a symbol keeps the arguments at these places, and is compared by this precedence; or it gives way to the argument at
-- one place. Places are counted from 0 here, and from 1 in a certificate (Arts and Giesl 2000; Kop 2012)
pub data Filter : Type 0 where
  keep : (prec : ℕ) (places : List ℕ) → Filter
  pick : (place : ℕ) → Filter
