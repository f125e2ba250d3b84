-- The measure by a node `blocks`.
use Rattle.std.proofs.Common.{◌≡◌, ℕ, zero, suc, ◌<◌, ◌≤◌, ◌⊎◌, inl, inr, List, [], ◌∷◌, length, Some, slice_get, Contains, refl, sym, ◌∙◌, subst, arith}
use Rattle.wh_terms.specs.Typing.{Symbols}
use Rattle.wh_terms.specs.Rules.{RewriteRule}
use Rattle.wh_step.specs.Step.{Step}
use Rattle.wh_system.proofs.TypedDecided.{Decided}
use Rattle.wh_pairs.specs.PairData.{PairData}
use Rattle.wh_pairs.specs.Sets.{IsSetOf, InSet}
use Rattle.wh_pairs.proofs.ByPlace.{some_one, contains_at, place_of}
use Rattle.wh_graph.specs.May.{Follows}
use Rattle.wh_graph.specs.Components.{IsIn}
use Rattle.wh_graph.specs.Blocks.{AreBlocks}
use Rattle.wh_proof.specs.Nodes.{AreSetsOf, more_sets}
use Rattle.wh_proof_calls.specs.MarkedCalls.{MarkedCall, PairLeads, ArgumentsStep}
use Rattle.wh_proof_nodes.proofs.MayLaws.{MayIsSound}
use Rattle.wh_law_projection.specs.LongestSequences.{IsBoundedCall}
use Rattle.wh_law_measures.specs.Lexicographic.{IsLess, IsNotMore}
use Rattle.wh_law_measures.specs.Reaching.{CanReachSome}
use Rattle.wh_law_measures.specs.Measures.{Measure, Measures, EachMeasures, IsBlocksList, IsBlocksMeasure}
use Rattle.wh_law_measures.proofs.Lexicographic.{headed_less, behind_less, headed_not_more}
use Rattle.wh_law_measures.proofs.Reached.{reach_some_before, reaches_itself, reach_may}

module _ (S : Symbols) (rules : List RewriteRule) (pairs : List PairData) where
  -- the measure of a set is one of a block that has its pairs
  measures_part : (part set : List ℕ) (f : Measure S rules) → IsSetOf (Contains part) set → Measures S rules pairs set f
      → Measures S rules pairs part f
  measures_part part set f is m = record {
    no_step_raises = m.no_step_raises;
    each_pair_lowers = λ p c d good also (n, inside, at) s. m.each_pair_lowers p c d good also (n, (is.each n).1 inside, at) s;
  }

  pub parts_measured : (parts sets : List (List ℕ)) (fs : List (Measure S rules)) → AreSetsOf parts sets
      → EachMeasures S rules pairs sets fs → EachMeasures S rules pairs parts fs
  parts_measured [] [] fs are each = each
  parts_measured [] (set ∷ sets) fs are each = elim are [ ]
  parts_measured (part ∷ parts) [] fs are each = elim are [ ]
  parts_measured (part ∷ parts) (set ∷ sets) [] are each = absurd each
  parts_measured (part ∷ parts) (set ∷ sets) (f ∷ fs) (more_sets is are) each =
      (measures_part part set f is each.0, parts_measured parts sets fs are each.1)

  -- the list of a call begins with a number of blocks
  head_small : (parts : List (List ℕ)) (fs : List (Measure S rules)) (c : MarkedCall) (good : IsBoundedCall S rules c) (l : List ℕ)
      → IsBlocksList S rules pairs parts fs c good l → (k : ℕ) × (m : List ℕ) × (l ≡ k ∷ m) × (k ≤ length parts)
  head_small [] fs c good l e = (0, [], e, omega arith)
  head_small (part ∷ parts) [] c good l is = absurd is
  head_small (part ∷ parts) (f ∷ fs) c good l (inl (reach, e)) = (length (part ∷ parts), f c good, e, omega arith)
  head_small (part ∷ parts) (f ∷ fs) c good l (inr (not, rest)) =
      let (k, m, e, le) = head_small parts fs c good l rest in (k, m, e, omega arith)

  -- each call has one
  blocks_list : (parts : List (List ℕ)) (fs : List (Measure S rules)) → EachMeasures S rules pairs parts fs → (c : MarkedCall)
      (good : IsBoundedCall S rules c) → ((set : List ℕ) → Decided (CanReachSome rules pairs set c))
      → (l : List ℕ) × IsBlocksList S rules pairs parts fs c good l
  blocks_list [] fs each c good decide = (0 ∷ [], refl)
  blocks_list (part ∷ parts) [] each c good decide = absurd each
  blocks_list (part ∷ parts) (f ∷ fs) each c good decide = elim (decide part) [
    | inl reach ↦ (length (part ∷ parts) ∷ f c good, inl (reach, refl))
    | inr not ↦ let (l, is) = blocks_list parts fs each.1 c good decide in (l, inr (not, is))
  ]

  blocks_steps : (parts : List (List ℕ)) (fs : List (Measure S rules)) → EachMeasures S rules pairs parts fs → (c d : MarkedCall)
      (good : IsBoundedCall S rules c) (also : IsBoundedCall S rules d) → ArgumentsStep (Step rules) c d → (l m : List ℕ)
      → IsBlocksList S rules pairs parts fs c good l → IsBlocksList S rules pairs parts fs d also m → IsNotMore m l
  blocks_steps [] fs each c d good also s l m e k = inl (k ∙ sym e)
  blocks_steps (part ∷ parts) [] each c d good also s l m here there = absurd each
  blocks_steps (part ∷ parts) (f ∷ fs) each c d good also s l m (inl (reach, e)) (inl (still, k)) =
      headed_not_more (length (part ∷ parts)) (length (part ∷ parts)) (f d also) (f c good) k e (omega arith) (each.0.no_step_raises c d good also s)
  blocks_steps (part ∷ parts) (f ∷ fs) each c d good also s l m (inl (reach, e)) (inr (not, rest)) =
      let (k, n, is, le) = head_small parts fs d also m rest in
      inr (headed_less k (length (part ∷ parts)) n (f c good) is e (omega arith))
  blocks_steps (part ∷ parts) (f ∷ fs) each c d good also s l m (inr (not, rest)) (inl (still, k)) =
      absurd (not (reach_some_before rules pairs part c d s still))
  blocks_steps (part ∷ parts) (f ∷ fs) each c d good also s l m (inr (not, rest)) (inr (none, others)) =
      blocks_steps parts fs each.1 c d good also s l m rest others

  -- the pair stands in one of the blocks
  abbrev InSome : List (List ℕ) → PairData → Type 0
  InSome parts p = (j n : ℕ) × IsIn parts j n × (slice_get pairs n ≡ Some p)

  in_none : (p : PairData) → InSome [] p → ⊥
  in_none p (j, n, (k, (block, is, there)), at) = cc

  first_or_later : (part : List ℕ) (parts : List (List ℕ)) (p : PairData) → InSome (part ∷ parts) p → InSet pairs part p ⊎ InSome parts p
  first_or_later part parts p (zero, n, (k, (block, is, there)), at) =
      inl (n, subst (λ l. Contains l n) (some_one is refl) (contains_at block k n there), at)
  first_or_later part parts p (suc j, n, inside, at) = inr (j, n, inside, at)

  -- no pair of a block may follow one of a later block
  abbrev Ordered : List (List ℕ) → Type 0
  Ordered parts = (i j a b : ℕ) → i < j → IsIn parts j a → IsIn parts i b → Follows rules pairs a b → ⊥

  ordered_rest : (part : List ℕ) (parts : List (List ℕ)) → Ordered (part ∷ parts) → Ordered parts
  ordered_rest part parts ordered i j a b less there here = ordered (suc i) (suc j) a b (omega arith) there here

  -- the call that a pair of a later block leads to reaches no pair of the first one
  no_way_back : MayIsSound rules (Step rules) → (part : List ℕ) (parts : List (List ℕ)) → Ordered (part ∷ parts) → (p : PairData)
      (c d : MarkedCall) → InSome parts p → PairLeads S p c d → CanReachSome rules pairs part d → ⊥
  no_way_back sound part parts ordered p c d (j, n, there, at) s (q, (m, inside, here), reach) =
      let (k, stands) = place_of part m inside in
      ordered 0 (suc j) n m (omega arith) there (k, (part, refl, stands)) (p, q, at, here, reach_may rules sound p q c d s reach)

  blocks_pairs : MayIsSound rules (Step rules) → (parts : List (List ℕ)) (fs : List (Measure S rules)) → EachMeasures S rules pairs parts fs
      → Ordered parts → (p : PairData) (c d : MarkedCall) (good : IsBoundedCall S rules c) (also : IsBoundedCall S rules d)
      → InSome parts p → PairLeads S p c d → (l m : List ℕ) → IsBlocksList S rules pairs parts fs c good l
      → IsBlocksList S rules pairs parts fs d also m → IsLess m l
  blocks_pairs sound [] fs each ordered p c d good also inside s l m here there = absurd (in_none p inside)
  blocks_pairs sound (part ∷ parts) [] each ordered p c d good also inside s l m here there = absurd each
  blocks_pairs sound (part ∷ parts) (f ∷ fs) each ordered p c d good also inside s l m (inl (reach, e)) (inl (still, k)) =
      elim (first_or_later part parts p inside) [
        | inl first ↦ behind_less (length (part ∷ parts)) (length (part ∷ parts)) (f d also) (f c good) k e (omega arith)
            (each.0.each_pair_lowers p c d good also first s)
        | inr later ↦ absurd (no_way_back sound part parts ordered p c d later s still)
      ]
  blocks_pairs sound (part ∷ parts) (f ∷ fs) each ordered p c d good also inside s l m (inl (reach, e)) (inr (not, rest)) =
      let (k, n, is, le) = head_small parts fs d also m rest in
      headed_less k (length (part ∷ parts)) n (f c good) is e (omega arith)
  blocks_pairs sound (part ∷ parts) (f ∷ fs) each ordered p c d good also inside s l m (inr (not, rest)) (inl (still, k)) =
      elim (first_or_later part parts p inside) [
        | inl first ↦ absurd (not (reaches_itself rules pairs part p c d first s))
        | inr later ↦ absurd (no_way_back sound part parts ordered p c d later s still)
      ]
  blocks_pairs sound (part ∷ parts) (f ∷ fs) each ordered p c d good also inside s l m (inr (not, rest)) (inr (none, others)) =
      elim (first_or_later part parts p inside) [
        | inl first ↦ absurd (not (reaches_itself rules pairs part p c d first s))
        | inr later ↦ blocks_pairs sound parts fs each.1 (ordered_rest part parts ordered) p c d good also later s l m rest others
      ]

  pub blocks_measures : MayIsSound rules (Step rules) → (set : List ℕ) (parts : List (List ℕ)) → AreBlocks (Follows rules pairs) set parts
      → (fs : List (Measure S rules)) → EachMeasures S rules pairs parts fs → (f : Measure S rules)
      → IsBlocksMeasure S rules pairs parts fs f → Measures S rules pairs set f
  blocks_measures sound set parts are fs each f is = record {
    no_step_raises = λ c d good also s. blocks_steps parts fs each c d good also s (f c good) (f d also) (is c good) (is d also);
    each_pair_lowers = λ p c d good also (n, inside, at) s.
        let (i, there) = are.partition.whole n inside in
        blocks_pairs sound parts fs each are.ordered p c d good also (i, n, there, at) s (f c good) (f d also) (is c good) (is d also);
  }

  pub blocks_measure : ((set : List ℕ) (c : MarkedCall) → IsBoundedCall S rules c → Decided (CanReachSome rules pairs set c))
      → (parts : List (List ℕ)) (fs : List (Measure S rules)) → EachMeasures S rules pairs parts fs
      → (f : Measure S rules) × IsBlocksMeasure S rules pairs parts fs f
  blocks_measure decide parts fs each = (
    λ c good. (blocks_list parts fs each c good (λ set. decide set c good)).0,
    λ c good. (blocks_list parts fs each c good (λ set. decide set c good)).1,
  )
