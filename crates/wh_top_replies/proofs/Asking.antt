-- What the words that were read ask for is within its limits.
use Rattle.std.proofs.Common.{ℕ, ◌≤◌, inl, inr, List, arith}
use Rattle.wh_top_words.specs.Words.{Item, SetTo, tries, gen, refute, Asks}

set_tries : (items : List Item) (n : ℕ) → SetTo items tries n → n ≤ 1000000
set_tries items n (inl (none, is)) = omega (arith, is)
set_tries items n (inr (one, low, high)) = high

pub tries_asked : (words : List (List ℕ)) (file : List ℕ) (n : ℕ) → Asks words (refute file n) → n ≤ 1000000
tries_asked words file n (more, items, split, say, one, sets) = set_tries items n sets.tries

pub count_asked : (words : List (List ℕ)) (n : ℕ) → Asks words (gen n) → (1 ≤ n) × (n ≤ 200)
count_asked words n (more, split, say, some, few) = (some, few)
