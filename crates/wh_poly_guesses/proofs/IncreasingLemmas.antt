-- How many increasing numbers there are below a bound.
use Rattle.std.proofs.Common.{ℕ, zero, suc, ◌<◌, ◌≤◌, List, [], ◌∷◌, length, get_or, Contains, arith}
use Rattle.std.proofs.lemmas.Option.{slice_get-get_or}
use Rattle.wh_pairs.specs.PairData.{IsIncreasing}
use Rattle.wh_pairs.proofs.Increasing.{increasing_at}
use Rattle.wh_pairs.proofs.ByPlace.{contains_at}

-- increasing numbers are at least their places, so numbers below k are at most k
above_place : (ns : List ℕ) (i : ℕ) → IsIncreasing ns → i < length ns → i ≤ get_or ns i 0
above_place ns zero up within = omega arith
above_place ns (suc i) up within =
    let before = above_place ns i up (omega arith) in
    let next = increasing_at ns i (suc i) up (omega arith) within in
    omega (arith, before, next)

pub few_increasing : (ns : List ℕ) (k : ℕ) → IsIncreasing ns → ((n : ℕ) → Contains ns n → n < k) → length ns ≤ k
few_increasing [] k up below = omega arith
few_increasing (n ∷ ns) k up below =
    let at : length ns < length (n ∷ ns) = omega arith in
    let last = above_place (n ∷ ns) (length ns) up at in
    let less = below (get_or (n ∷ ns) (length ns) 0) (contains_at (n ∷ ns) (length ns) (get_or (n ∷ ns) (length ns) 0) (slice_get-get_or (n ∷ ns) (length ns) 0 at)) in
    omega (arith, last, less)
