-- How long a list is after a push.
use Rattle.std.proofs.Common.{◌≡◌, ℕ, ◌+◌, List, [], ◌∷◌, ◌++◌, length, ap, arith}
use Rattle.std.proofs.lemmas.List.{length-append}

pub pushed_one : {A : Type 0} (xs new : List A) (i : ℕ) (x : A) → new ≡ xs ++ x ∷ [] → length xs ≡ i → length new ≡ i + 1
pushed_one xs new i x pushed count = omega (arith, ap length pushed, length-append xs (x ∷ []), count)
