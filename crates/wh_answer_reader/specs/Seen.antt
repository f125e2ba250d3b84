-- The words of a line, as the reader of answers has them.
use Rattle.std.specs.Prelude.{ℕ, List, map}
use Rattle.std.specs.Borrow.{Bor}

-- the texts behind references (ours)
abbrev pub seen : List (Bor (List ℕ)) → List (List ℕ)
seen = map (λ w. w.now)
