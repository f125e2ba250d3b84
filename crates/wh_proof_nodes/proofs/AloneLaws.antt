-- One pair that may not follow itself.
use Rattle.std.proofs.Common.{◌≡◌, ℕ, inl, inr, List, [], ◌∷◌, Some, Contains, slice_get, sym, subst}
use Rattle.wh_terms.specs.Tree.{Tm}
use Rattle.wh_terms.specs.Typing.{Symbols}
use Rattle.wh_terms.specs.Rules.{RewriteRule}
use Rattle.wh_step_laws.specs.Ends.{Ends}
use Rattle.wh_pairs.specs.PairData.{PairData}
use Rattle.wh_graph.specs.May.{Follows}
use Rattle.wh_pairs.proofs.MemberLemmas.{none_there, head_or_behind}
use Rattle.wh_proof_calls.specs.MarkedCalls.{MarkedCall, IsTypedCall, SomePairStep, CallStep, CallsEnd}
use Rattle.wh_pairs.specs.Sets.{InSet}
use Rattle.wh_proof_nodes.proofs.MayLaws.{MayIsSound}
use Rattle.wh_proof_calls.proofs.Leading.{ends_while, calls_end}
use Rattle.wh_proof_nodes.proofs.CallLaws.{ComesFrom, comes_step, comes_kept, comes_may}

only_one : (a n : ℕ) → Contains (a ∷ []) n → a ≡ n
only_one a n inside = elim (head_or_behind [] a n inside) [
  | inl same ↦ same
  | inr rest ↦ absurd (none_there n rest)
]

-- a pair that is in the set has the one number
at_one : (pairs : List PairData) (a : ℕ) (p : PairData) → InSet pairs (a ∷ []) p → slice_get pairs a ≡ Some p
at_one pairs a p (n, inside, at) = subst (λ k. slice_get pairs k ≡ Some p) (sym (only_one a n inside)) at

-- a call that the pair leads to leads no further by it
pub alone_ends : (S : Symbols) (rules : List RewriteRule) (pairs : List PairData) (a : ℕ) {R : Tm → Tm → Type 0} → MayIsSound rules R
    → (Follows rules pairs a a → ⊥) → CallsEnd S rules R (InSet pairs (a ∷ []))
alone_ends S rules pairs a {R = R} sound never =
    calls_end (λ c d typed (p, has, by). ends_while (ComesFrom R p) (comes_kept p) (none p has) d (comes_step p c d by) by.minimal)
  where
    none : (p : PairData) → InSet pairs (a ∷ []) p → (c d : MarkedCall) → ComesFrom R p c → IsTypedCall S rules d
        → SomePairStep S R (InSet pairs (a ∷ [])) c d → Ends (CallStep S rules R (InSet pairs (a ∷ []))) d
    none p has c d from typed (q, also, by) =
        absurd (never (p, q, at_one pairs a p has, at_one pairs a q also, comes_may rules p q c d sound from by))
