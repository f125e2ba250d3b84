-- Whether filters are proper is decided.
use Rattle.std.proofs.Common.{◌≡◌, ℕ, suc, ◌<◌, ◌-◌, inl, inr, List, [], ◌∷◌, length, map, Option, Some, None, slice_get, refl}
use Rattle.wh_types.specs.Ty.{Ty, sort, ◌⇒◌}
use Rattle.wh_system.proofs.TypedDecided.{Decided, decided_by, both_decided, below_decided}
use Rattle.wh_pairs.proofs.Searches.{all_decided}
use Rattle.wh_order_inference.specs.FilterText.{WrittenFilter, keeps, picks}
use Rattle.wh_order_extended.specs.Filtered.{IncreasingFrom}
use Rattle.wh_order_node.specs.Filterings.{IsProperAsWritten}

pub increasing_decided : (from n : ℕ) (is : List ℕ) → Decided (IncreasingFrom from n is)
increasing_decided from n [] = inl tt
increasing_decided from n (i ∷ is) =
    decided_by (λ (above, (within, rest)). (above, within, rest)) (λ (above, within, rest). (above, (within, rest)))
    (both_decided (below_decided from (suc i)) (both_decided (below_decided i n) (increasing_decided (suc i) n is)))

is_sort_decided : (o : Option Ty) → Decided ((s : ℕ) × (o ≡ Some (sort s)))
is_sort_decided None = inr (λ (s, e). absurd (cc))
is_sort_decided (Some (sort s)) = inl (s, refl)
is_sort_decided (Some (a ⇒ b)) = inr (λ (s, e). absurd (cc))

pub proper_decided : (cs : List Ty) (w : WrittenFilter) → Decided (IsProperAsWritten cs w)
proper_decided cs (keeps prec places) =
    decided_by (λ (places_are, proper). record { counted = places_are; proper = proper }) (λ p. (p.counted, p.proper))
    (both_decided (all_decided (λ n. 0 < n) (λ n. below_decided 0 n) places) (increasing_decided 0 (length cs) (map (λ n. n - 1) places)))
proper_decided cs (picks place) =
    decided_by (λ (places_are, proper). record { counted = places_are; proper = proper }) (λ p. (p.counted, p.proper))
    (both_decided (below_decided 0 place) (is_sort_decided (slice_get cs (place - 1))))
