-- Ranges that wait to be looked at: which were looked at, and which join.
use Rattle.std.proofs.Common.{◌≡◌, ◌⊎◌, ◌+◌, ◌<◌, ℕ, zero, suc, inl, inr, List, [], ◌∷◌, ◌++◌, map, length, refl, ap, subst, ◌∙◌, arith}
use Rattle.std.proofs.lemmas.List.Elements.{Contains-push, Contains-append_left, Contains-append_cases}
use Rattle.wh_pairs.proofs.FewLemmas.{in_one}
use Rattle.wh_reduction_pairs.specs.TaskView.{task_data}
use Rattle.wh_reduction_pairs.specs.declared.task.Task.{Task}
use Rattle.wh_poly_ranges.specs.Excluded.{coefficient_in, IsExcluded}
use Rattle.wh_poly_ranges.specs.Bounds.{IsSetTo, lists_in, lists_of}
use Rattle.wh_poly_ranges.specs.Out.{IsOut, IsSpanOut, AllOut, KeepsAll}
use Rattle.wh_poly_ranges.specs.declared.bounds.Ranges.{Ranges}
use Rattle.wh_poly_ranges.specs.declared.bounds.Span.{Span}
use Rattle.wh_poly_ranges.proofs.Kept.{kept_out, halves_out}

module _ (t : Task) (strict : ℕ) where
  abbrev Out : List (List ℕ) → List (List ℕ) → Type 0
  Out low high = IsExcluded (task_data t) strict low high

  -- all that wait are out where none waits
  pub none_waits : (spans : List Span) → (0 < length spans → ⊥) → AllOut t strict spans
  none_waits spans none s found = absurd (none (let within = found.1 in omega (arith, within)))

  -- where one more is out, all are
  pub all_more : (spans : List Span) (s : Span) → AllOut t strict spans → IsSpanOut t strict s → AllOut t strict (spans ++ s ∷ [])
  all_more spans s all out x found = elim (Contains-append_cases spans (s ∷ []) x found) [
    | inl before ↦ all x before
    | inr here ↦ subst (IsSpanOut t strict) (in_one s x here) out
  ]

  pub halves : (n j least next : ℕ) (ranges : Ranges) (old mid new : List Span) (above below : Span)
      → mid ≡ old ++ above ∷ [] → new ≡ mid ++ below ∷ []
      → lists_in above.high.items ≡ lists_of ranges.high → lists_in below.low.items ≡ lists_of ranges.low
      → IsSetTo n j least (lists_of ranges.high) (lists_in below.high.items) → IsSetTo n j next (lists_of ranges.low) (lists_in above.low.items)
      → least ≡ coefficient_in (lists_of ranges.low) n j → next ≡ suc least
      → coefficient_in (lists_of ranges.low) n j < coefficient_in (lists_of ranges.high) n j
      → AllOut t strict new → IsOut t strict ranges × AllOut t strict old
  halves n j least next ranges old mid new above below first second above_high below_low down up is more opened all =
      let low = lists_of ranges.low in
      let high = lists_of ranges.high in
      let all_of = subst (AllOut t strict) (second ∙ ap (λ l. l ++ below ∷ []) first) all in
      let lower : IsSpanOut t strict below = all_of below (Contains-push (old ++ above ∷ []) below) in
      let upper : IsSpanOut t strict above = all_of above (Contains-append_left (old ++ above ∷ []) (below ∷ []) above (Contains-push old above)) in (
        halves_out (task_data t) strict n j least next low high (lists_in below.high.items) (lists_in above.low.items)
            down up is more opened
            (subst (λ l. Out l (lists_in below.high.items)) below_low lower)
            (subst (λ h. Out (lists_in above.low.items) h) above_high upper),
        λ s found. all_of s (Contains-append_left (old ++ above ∷ []) (below ∷ []) s (Contains-append_left old (above ∷ []) s found)),
      )

  -- ranges are out where those are that were made of their ends, and narrowed
  pub span_out : (s : Span) (made narrowed : Ranges) → lists_of made.low ≡ lists_in s.low.items → lists_of made.high ≡ lists_in s.high.items
      → KeepsAll t strict made narrowed → IsOut t strict narrowed → IsSpanOut t strict s
  span_out s made narrowed low high kept out =
      subst (λ l. Out l (lists_in s.high.items)) low (subst (λ h. Out (lists_of made.low) h) high
      (kept_out (task_data t) strict (lists_of made.low) (lists_of made.high) (lists_of narrowed.low) (lists_of narrowed.high) kept out))

  pub ranges_out : (s : Span) (made : Ranges) → lists_of made.low ≡ lists_in s.low.items → lists_of made.high ≡ lists_in s.high.items
      → IsOut t strict made → IsSpanOut t strict s
  ranges_out s made low high out = subst (λ l. Out l (lists_in s.high.items)) low (subst (λ h. Out (lists_of made.low) h) high out)

  -- ranges are out where a copy of their ends is
  pub copy_out : (s : Span) (ranges : Ranges) → lists_in s.low.items ≡ lists_of ranges.low → lists_in s.high.items ≡ lists_of ranges.high
      → IsSpanOut t strict s → IsOut t strict ranges
  copy_out s ranges low high out = subst (λ l. Out l (lists_of ranges.high)) low (subst (λ h. Out (lists_in s.low.items) h) high out)

-- a number below the next one is below, or is that one
pub below_next : (i n : ℕ) → i < n + 1 → (i < n) ⊎ (i ≡ n)
below_next zero zero below = inr refl
below_next zero (suc n) below = inl (omega arith)
below_next (suc i) zero below = absurd (omega (arith, below))
below_next (suc i) (suc n) below = elim (below_next i n (omega (arith, below))) [
  | inl less ↦ inl (omega (arith, less))
  | inr same ↦ inr (omega (arith, same))
]
