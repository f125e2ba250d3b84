-- Blocks of pairs of which no earlier one may follow a later one.
use Rattle.std.proofs.Common.{◌≡◌, ℕ, zero, suc, ◌+◌, ◌<◌, ◌≤◌, ◌⊎◌, inl, inr, List, [], ◌∷◌, length, Some, Contains, slice_get, refl, sym, subst, eq-or-lt_of_le, arith}
use Rattle.std.proofs.lemmas.Option.{slice_get_within}
use Rattle.wh_terms.specs.Tree.{Tm}
use Rattle.wh_terms.specs.Typing.{Symbols}
use Rattle.wh_terms.specs.Rules.{RewriteRule}
use Rattle.wh_step_laws.specs.Ends.{Ends, ends}
use Rattle.wh_pairs.specs.PairData.{PairData}
use Rattle.wh_graph.specs.May.{Follows}
use Rattle.wh_graph.specs.Components.{IsIn}
use Rattle.wh_graph.specs.Blocks.{AreBlocks}
use Rattle.wh_proof_calls.specs.MarkedCalls.{MarkedCall, CallStep, CallsEnd}
use Rattle.wh_pairs.specs.Sets.{InSet}
use Rattle.wh_pairs.proofs.ByPlace.{some_one, contains_at}
use Rattle.wh_proof_nodes.proofs.MayLaws.{MayIsSound}
use Rattle.wh_proof_calls.proofs.Leading.{ends_induct, other_pairs, other_arguments}
use Rattle.wh_proof_nodes.proofs.CallLaws.{calls_fewer, no_pair_calls, ComesFrom, comes_step, comes_kept, comes_may}

-- the pair stands in a block from number i on
abbrev pub FromBlock : List PairData → List (List ℕ) → ℕ → PairData → Type 0
FromBlock pairs bs i p = (j n : ℕ) × (i ≤ j) × IsIn bs j n × (slice_get pairs n ≡ Some p)

-- the call comes from a pair of a block behind number i
abbrev ComesLater : (Tm → Tm → Type 0) → List PairData → List (List ℕ) → ℕ → MarkedCall → Type 0
ComesLater R pairs bs i c = (p : PairData) × FromBlock pairs bs (suc i) p × ComesFrom R p c

-- no pair of a block may follow one of a later block
abbrev Ordered : List RewriteRule → List PairData → List (List ℕ) → Type 0
Ordered rules pairs bs = (i j a b : ℕ) → i < j → IsIn bs j a → IsIn bs i b → Follows rules pairs a b → ⊥

same_or_later : (pairs : List PairData) (bs : List (List ℕ)) (i : ℕ) (p : PairData) → FromBlock pairs bs i p
    → ((n : ℕ) × IsIn bs i n × (slice_get pairs n ≡ Some p)) ⊎ FromBlock pairs bs (suc i) p
same_or_later pairs bs i p (j, n, le, inside, at) = elim (eq-or-lt_of_le le) [
  | inl same ↦ inl (n, subst (λ k. IsIn bs k n) (sym same) inside, at)
  | inr less ↦ inr (j, n, omega arith, inside, at)
]

-- a call that comes from a later block, and ends by the later blocks, ends by this one too: none of its pairs follow
later_ends : {S : Symbols} {rules : List RewriteRule} {R : Tm → Tm → Type 0} (pairs : List PairData) (bs : List (List ℕ)) (i : ℕ)
    → MayIsSound rules R → Ordered rules pairs bs
    → (c : MarkedCall) → ComesLater R pairs bs i c → Ends (CallStep S rules R (FromBlock pairs bs (suc i))) c
    → Ends (CallStep S rules R (FromBlock pairs bs i)) c
later_ends {S = S} {rules = rules} {R = R} pairs bs i sound ordered c0 from0 all =
    ends_induct (λ c. ComesLater R pairs bs i c → Ends Here c) next c0 all from0
  where
    Here : MarkedCall → MarkedCall → Type 0
    Here = CallStep S rules R (FromBlock pairs bs i)

    next : (c : MarkedCall)
        → ((d : MarkedCall) → CallStep S rules R (FromBlock pairs bs (suc i)) c d → ComesLater R pairs bs i d → Ends Here d)
        → ComesLater R pairs bs i c → Ends Here c
    next c below (p, place, from) = ends (λ d s. elim (s.leads) [
      | inl a ↦ below d (other_arguments c d s a) (p, place, comes_kept p c d from a)
      | inr (q, has, by) ↦ elim (same_or_later pairs bs i q has) [
        | inl (n, inside, at) ↦
            let (j, m, le, there, also) = place in
            absurd (ordered i j m n (omega arith) there inside (p, q, also, at, comes_may rules p q c d sound from by))
        | inr later ↦ below d (other_pairs c d s (λ _. (q, later, by))) (q, later, comes_step q c d by)
      ]
    ])

-- a call that ends by the pairs of the block ends by those of the later blocks too
block_ends : {S : Symbols} {rules : List RewriteRule} {R : Tm → Tm → Type 0} (pairs : List PairData) (bs : List (List ℕ)) (i : ℕ)
    (block : List ℕ) → MayIsSound rules R → Ordered rules pairs bs
    → slice_get bs i ≡ Some block → CallsEnd S rules R (FromBlock pairs bs (suc i)) → (c : MarkedCall)
    → Ends (CallStep S rules R (InSet pairs block)) c
    → Ends (CallStep S rules R (FromBlock pairs bs i)) c
block_ends {S = S} {rules = rules} {R = R} pairs bs i block sound ordered here later =
    ends_induct (Ends Here) (λ c below. ends (λ d s. elim (s.leads) [
      | inl a ↦ below d (other_arguments c d s a)
      | inr (q, has, by) ↦ elim (same_or_later pairs bs i q has) [
        | inl (n, inside, at) ↦ below d (other_pairs c d s (λ _. (q, (n, in_block n inside, at), by)))
        | inr more ↦ later_ends pairs bs i sound ordered d (q, more, comes_step q c d by) (later d by.minimal)
      ]
    ]))
  where
    Here : MarkedCall → MarkedCall → Type 0
    Here = CallStep S rules R (FromBlock pairs bs i)

    in_block : (n : ℕ) → IsIn bs i n → Contains block n
    in_block n (k, (b, is, there)) = subst (λ l. Contains l n) (some_one is here) (contains_at b k n there)

past_blocks : (pairs : List PairData) (bs : List (List ℕ)) (i : ℕ) → length bs ≤ i → (p : PairData) → FromBlock pairs bs i p → ⊥
past_blocks pairs bs i past p (j, n, le, (k, (b, is, there)), at) = let within = slice_get_within bs j b is in omega arith

block_or_past : (bs : List (List ℕ)) (i : ℕ) → ((block : List ℕ) × (slice_get bs i ≡ Some block)) ⊎ (length bs ≤ i)
block_or_past [] i = inr (omega arith)
block_or_past (b ∷ bs) zero = inl (b, refl)
block_or_past (b ∷ bs) (suc i) = elim (block_or_past bs i) [
  | inl found ↦ inl found
  | inr past ↦ inr (omega arith)
]

-- by induction from the last block on
from_ends : {S : Symbols} {rules : List RewriteRule} {R : Tm → Tm → Type 0} (pairs : List PairData) (bs : List (List ℕ))
    → MayIsSound rules R → Ordered rules pairs bs
    → ((i : ℕ) (block : List ℕ) → slice_get bs i ≡ Some block → CallsEnd S rules R (InSet pairs block)) → (k i : ℕ) → length bs ≤ i + k
    → CallsEnd S rules R (FromBlock pairs bs i)
from_ends pairs bs sound ordered each zero i past = no_pair_calls (past_blocks pairs bs i (omega arith))
from_ends pairs bs sound ordered each (suc k) i past = elim (block_or_past bs i) [
  | inl (block, here) ↦
      let later = from_ends pairs bs sound ordered each k (suc i) (omega arith) in
      λ c all. block_ends pairs bs i block sound ordered here later c (each i block here c all)
  | inr over ↦ no_pair_calls (past_blocks pairs bs i over)
]

-- where the calls of each block end, those of the set do
pub blocks_end : (S : Symbols) (rules : List RewriteRule) (pairs : List PairData) (set : List ℕ) (bs : List (List ℕ)) {R : Tm → Tm → Type 0}
    → MayIsSound rules R → AreBlocks (Follows rules pairs) set bs
    → ((i : ℕ) (block : List ℕ) → slice_get bs i ≡ Some block → CallsEnd S rules R (InSet pairs block))
    → CallsEnd S rules R (InSet pairs set)
blocks_end S rules pairs set bs sound are each =
    calls_fewer (λ p (n, inside, at). let (i, there) = are.partition.whole n inside in (i, n, omega arith, there, at))
    (from_ends pairs bs sound are.ordered each (length bs) 0 (omega arith))
