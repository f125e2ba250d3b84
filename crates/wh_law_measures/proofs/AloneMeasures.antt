-- The measure by a node `alone`.
use Rattle.std.proofs.Common.{◌≡◌, ℕ, ◌<◌, ◌≤◌, inl, inr, List, [], ◌∷◌, Some, slice_get, Contains, refl, sym, subst, arith}
use Rattle.wh_terms.specs.Typing.{Symbols}
use Rattle.wh_terms.specs.Rules.{RewriteRule}
use Rattle.wh_step.specs.Step.{Step}
use Rattle.wh_system.proofs.TypedDecided.{Decided}
use Rattle.wh_pairs.specs.PairData.{PairData}
use Rattle.wh_pairs.specs.Sets.{InSet}
use Rattle.wh_pairs.proofs.MemberLemmas.{none_there, head_or_behind}
use Rattle.wh_graph.specs.May.{Follows}
use Rattle.wh_proof_calls.specs.MarkedCalls.{MarkedCall, PairLeads}
use Rattle.wh_proof_nodes.proofs.MayLaws.{MayIsSound}
use Rattle.wh_law_projection.specs.LongestSequences.{IsBoundedCall}
use Rattle.wh_law_measures.specs.Reaching.{CanReachSome}
use Rattle.wh_law_measures.specs.Measures.{Measure, Measures, IsOneOrZero, IsAloneMeasure}
use Rattle.wh_law_measures.proofs.Lexicographic.{headed_less, headed_not_more}
use Rattle.wh_law_measures.proofs.Reached.{reach_some_before, reaches_itself, reach_may}

one_or_zero : (P : Type 0) → Decided P → (n : ℕ) × IsOneOrZero P n
one_or_zero P (inl p) = (1, inl (p, refl))
one_or_zero P (inr not) = (0, inr (not, refl))

no_greater : (P Q : Type 0) (n m : ℕ) → (Q → P) → IsOneOrZero P n → IsOneOrZero Q m → m ≤ n
no_greater P Q n m h (inl (p, e)) (inl (q, d)) = omega arith
no_greater P Q n m h (inl (p, e)) (inr (not, d)) = omega arith
no_greater P Q n m h (inr (not, e)) (inl (q, d)) = absurd (not (h q))
no_greater P Q n m h (inr (not, e)) (inr (none, d)) = omega arith

smaller : (P Q : Type 0) (n m : ℕ) → P → (Q → ⊥) → IsOneOrZero P n → IsOneOrZero Q m → m < n
smaller P Q n m p none (inl (also, e)) (inl (q, d)) = absurd (none q)
smaller P Q n m p none (inl (also, e)) (inr (not, d)) = omega arith
smaller P Q n m p none (inr (not, e)) is = absurd (not p)

only_one : (a n : ℕ) → Contains (a ∷ []) n → a ≡ n
only_one a n inside = elim (head_or_behind [] a n inside) [
  | inl same ↦ same
  | inr rest ↦ absurd (none_there n rest)
]

module _ (S : Symbols) (rules : List RewriteRule) (pairs : List PairData) (a : ℕ) where
  at_one : (p : PairData) → InSet pairs (a ∷ []) p → slice_get pairs a ≡ Some p
  at_one p (n, inside, at) = subst (λ k. slice_get pairs k ≡ Some p) (sym (only_one a n inside)) at

  abbrev Reach : MarkedCall → Type 0
  Reach = CanReachSome rules pairs (a ∷ [])

  -- the call that the pair leads to can't reach it
  none_after : MayIsSound rules (Step rules) → (Follows rules pairs a a → ⊥) → (p : PairData) (c d : MarkedCall)
      → InSet pairs (a ∷ []) p → PairLeads S p c d → Reach d → ⊥
  none_after sound never p c d has s (q, also, reach) = never (p, q, at_one p has, at_one q also, reach_may rules sound p q c d s reach)

  pub alone_measures : MayIsSound rules (Step rules) → (Follows rules pairs a a → ⊥) → (f : Measure S rules)
      → IsAloneMeasure S rules pairs a f → Measures S rules pairs (a ∷ []) f
  alone_measures sound never f is = record {
    no_step_raises = λ c d good also s.
        let (n, here, e) = is c good in
        let (m, there, k) = is d also in
        headed_not_more m n [] [] k e
        (no_greater (Reach c) (Reach d) n m (reach_some_before rules pairs (a ∷ []) c d s) here there) (inl refl);
    each_pair_lowers = λ p c d good also has s.
        let (n, here, e) = is c good in
        let (m, there, k) = is d also in
        headed_less m n [] [] k e
        (smaller (Reach c) (Reach d) n m (reaches_itself rules pairs (a ∷ []) p c d has s) (none_after sound never p c d has s) here there);
  }

  pub alone_measure : ((c : MarkedCall) → IsBoundedCall S rules c → Decided (Reach c)) → (f : Measure S rules) × IsAloneMeasure S rules pairs a f
  alone_measure decide = (
    λ c good. (one_or_zero (Reach c) (decide c good)).0 ∷ [],
    λ c good. let (n, is) = one_or_zero (Reach c) (decide c good) in (n, is, refl),
  )
