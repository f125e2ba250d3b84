-- Increasing lists of numbers.
use Rattle.std.proofs.Common.{ℕ, ◌<◌, List, [], ◌∷◌, ◌++◌, All}
use Rattle.std.proofs.lemmas.List.Elements.{All-head, All-tail}
use Rattle.wh_pairs.specs.PairData.{IsIncreasing}

pub increasing_push : (ns : List ℕ) (n : ℕ) → IsIncreasing ns → All (λ m. m < n) ns → IsIncreasing (ns ++ n ∷ [])
increasing_push [] n up below = tt
increasing_push (m ∷ []) n up below = (All-head (λ k. k < n) m [] below, tt)
increasing_push (m ∷ k ∷ rest) n up below = (up.0, increasing_push (k ∷ rest) n up.1 (All-tail (λ j. j < n) m (k ∷ rest) below))
