-- Whether a number is one of an increasing list.
use Rattle.std.proofs.Common.{◌↔◌, ℕ, List, Result, Ok, Err, IsTrue, Contains, refl}
use Rattle.std.specs.Result.{is_ok}
use Rattle.std.specs.Ordering.{nat_cmp}
use Rattle.std.specs.List.Sorted.{IsBinarySearchResult}
use Rattle.wh_pairs.specs.PairData.{IsIncreasing}
use Rattle.wh_pairs.proofs.Increasing.{search_finds, search_misses}

pub searched_for : (ns : List ℕ) (n : ℕ) (r : Result ℕ ℕ) → IsIncreasing ns → IsBinarySearchResult (λ m. nat_cmp m n) ns r
    → IsTrue (is_ok r) ↔ Contains ns n
searched_for ns n (Ok i) up h = (λ _. search_finds ns n (Ok i) up h refl, λ _. refl)
searched_for ns n (Err i) up h = (λ no_way. cc, λ found. absurd (search_misses ns n (Err i) up h refl found))
