-- The worked system that needs interpretations is passing under its one rank, it has two pairs, and its nodes are a
-- proof.
use Rattle.std.proofs.Common.{◌≡◌, ◌<◌, ℕ, zero, suc, inl, inr, List, [], ◌∷◌, Some, length, slice_get, Contains, refl, sym, ap, ◌∙◌, subst, arith}
use Rattle.std.proofs.lemmas.List.Elements.{All-from_recursion, All-nil}
use Rattle.wh_terms.specs.Substitution.{act, acts, cons, up, up_free}
use Rattle.wh_step_laws.specs.Ranks.{rank_of, IsAccessible}
use Rattle.wh_pairs.specs.PairData.{PairData}
use Rattle.wh_access.specs.Readings.{Place}
use Rattle.wh_access.specs.Passing.{AllAccessible, EachUsed, Passes, IsPassing}
use Rattle.wh_pairs.specs.Candidates.{candidates, freed}
use Rattle.wh_pairs.specs.Subsumption.{IsDropped, ArePairs, none_left, one_kept, for_earlier, for_later}
use Rattle.wh_pairs.proofs.MemberLemmas.{none_there, at_head, behind}
use Rattle.wh_graph.specs.May.{Follows}
use Rattle.wh_graph.specs.Components.{StandsAt, IsIn, Partition}
use Rattle.wh_graph.specs.Blocks.{AreBlocks}
use Rattle.wh_usable.specs.Closed.{IsUsable}
use Rattle.wh_proof.specs.Nodes.{no_sets, more_sets, by_done, by_alone, by_blocks, by_poly}
use Rattle.wh_pairs.specs.Sets.{IsSetOf, IsKept}
use Rattle.wh_proof.specs.Proves.{Proves, all_proved, one_proved}
use Rattle.wh_proof_nodes.specs.MapSystem.{nat}
use Rattle.wh_proof_nodes.specs.IdentitySystem.{unary, identity_symbols, identity_rule, count_rule, identity_system, count_pair, call_pair, identity_pairs, count_task, identity_nodes}
use Rattle.wh_pairs.proofs.FewLemmas.{in_one, get_one, each_of_two, get_two}
use Rattle.wh_proof_nodes.proofs.IdentityCovers.{count_covering}

-- passing

abbrev one_rank : ℕ → ℕ
one_rank = rank_of (0 ∷ [])

-- the way to the argument of s
abbrev way_behind_s : List Place
way_behind_s = record { symbol = 0; index = 0 } ∷ []

identity_rule_passes : EachUsed (Passes identity_symbols one_rank) identity_rule
identity_rule_passes z (inl e) =
    subst (Passes identity_symbols one_rank identity_rule.left) e
    ([], refl, All-nil (λ p. IsAccessible identity_symbols one_rank p.symbol p.index))
identity_rule_passes z (inr never) = absurd never

s_is_open : IsAccessible identity_symbols one_rank 0 0
s_is_open = (nat, unary, refl, refl, omega arith)

count_rule_passes : EachUsed (Passes identity_symbols one_rank) count_rule
count_rule_passes z (inr (inr (inl e))) =
    let accessible : AllAccessible identity_symbols one_rank way_behind_s =
    All-from_recursion (λ p. IsAccessible identity_symbols one_rank p.symbol p.index) way_behind_s (s_is_open, tt) in
    subst (Passes identity_symbols one_rank count_rule.left) e (way_behind_s, refl, accessible)
count_rule_passes z (inr (inr (inr never))) = absurd never
count_rule_passes z (inr (inl never)) = absurd never
count_rule_passes z (inl never) = absurd never

pub identity_passes : IsPassing identity_system (0 ∷ [])
identity_passes =
    each_of_two (EachUsed (Passes identity_symbols one_rank)) identity_rule count_rule identity_rule_passes count_rule_passes

-- pairs: neither has the right side of the other

identity_candidates : candidates identity_symbols identity_system.rules ≡ identity_pairs
unfolding act acts cons up up_free freed
identity_candidates = refl

count_stays : IsDropped [] count_pair (call_pair ∷ []) → ⊥
count_stays (for_earlier {b = b} there s) = none_there b there
count_stays (for_later {b = b} there s proper) =
    let e : 2 ≡ b.right_fun = s.sides.symbol in
    let same : 1 ≡ b.right_fun = ap (λ (p : PairData). p.right_fun) (in_one call_pair b there) in
    omega arith

call_stays : IsDropped (count_pair ∷ []) call_pair [] → ⊥
call_stays (for_earlier {b = b} there s) =
    let e : 1 ≡ b.right_fun = s.sides.symbol in
    let same : 2 ≡ b.right_fun = ap (λ (p : PairData). p.right_fun) (in_one count_pair b there) in
    omega arith
call_stays (for_later {b = b} there s proper) = none_there b there

pub identity_pairs_are : ArePairs (candidates identity_symbols identity_system.rules) identity_pairs
identity_pairs_are =
    subst (λ cs. ArePairs cs identity_pairs) (sym identity_candidates) (one_kept count_stays (one_kept call_stays none_left))

-- blocks: the call of i leads to no pair

left_symbol : (n : ℕ) (p : PairData) → slice_get identity_pairs n ≡ Some p → 2 ≡ p.left_fun
left_symbol = get_two (λ n p. 2 ≡ p.left_fun) count_pair call_pair refl refl

pub none_follows : (b : ℕ) → Follows identity_system.rules identity_pairs 1 b → ⊥
none_follows b (x, y, at, also, may) =
    let same : call_pair ≡ x = cc in
    let right : 1 ≡ x.right_fun = ap (λ (p : PairData). p.right_fun) same in
    let left = left_symbol b y also in
    let meet : x.right_fun ≡ y.left_fun = may.heads in
    omega arith

abbrev block_list : List (List ℕ)
block_list = (0 ∷ []) ∷ (1 ∷ []) ∷ []

abbrev Stands : ℕ → List ℕ → Type 0
Stands i block = (k n : ℕ) → slice_get block k ≡ Some n → (k ≡ 0) × (i ≡ n) × Contains (0 ∷ 1 ∷ []) n

-- each block has its own number alone
stands : (i k n : ℕ) → StandsAt block_list i k n → (k ≡ 0) × (i ≡ n) × Contains (0 ∷ 1 ∷ []) n
stands i k n (block, at, here) =
    get_two Stands (0 ∷ []) (1 ∷ [])
    (λ k n here. let (first, same) = get_one 0 n k here in (first, same, subst (Contains (0 ∷ 1 ∷ [])) same (at_head (1 ∷ []) 0)))
    (λ k n here. let (first, same) = get_one 1 n k here in
    (first, same, subst (Contains (0 ∷ 1 ∷ [])) same (behind (1 ∷ []) 0 1 (at_head [] 1))))
    i block at k n here

apart : Partition (0 ∷ 1 ∷ []) block_list
apart = record {
  within = λ i n (k, at). (stands i k n at).2;
  whole = each_of_two (λ n. (i : ℕ) × IsIn block_list i n) 0 1 (0, (0, (0 ∷ [], refl, refl))) (1, (0, (1 ∷ [], refl, refl)));
  once = λ i j k m n first second.
      let (p, q, inside) = stands i k n first in
      let (r, s, also) = stands j m n second in
      (q ∙ sym s, p ∙ sym r);
}

-- of two numbers in order that stand in the list the later one is 1
only_later : (i j a : ℕ) → i < j → j ≡ a → Contains (0 ∷ 1 ∷ []) a → a ≡ 1
only_later i j a less is inside = each_of_two (λ n. i < n → n ≡ 1) 0 1 (λ never. absurd (omega arith)) (λ _. refl) a inside (omega arith)

pub blocks_are : AreBlocks (Follows identity_system.rules identity_pairs) (0 ∷ 1 ∷ []) block_list
blocks_are = record {
  enough = omega arith;
  filled = λ there. each_of_two (λ block. block ≡ [] → ⊥) (0 ∷ []) (1 ∷ []) (λ e. absurd (cc)) (λ e. absurd (cc)) [] there refl;
  partition = apart;
  ordered = back;
}
  where
    back : (i j a b : ℕ) → i < j → IsIn block_list j a → IsIn block_list i b → Follows identity_system.rules identity_pairs a b → ⊥
    back i j a b less (k, at) (m, also) follows =
        let (first, same, inside) = stands j k a at in
        none_follows b (subst (λ n. Follows identity_system.rules identity_pairs n b) (only_later i j a less same inside) follows)

-- nodes

pub one_set : (n : ℕ) → IsSetOf (Contains (n ∷ [])) (n ∷ [])
one_set n = record { increasing = tt; each = λ m. (λ there. there, λ there. there) }

pub none_kept : IsSetOf (IsKept (0 ∷ []) (0 ∷ [])) []
none_kept = record {
  increasing = tt;
  each = λ n. ((λ never. absurd (none_there n never)), (λ (there, kept). absurd (kept there)));
}

-- the two rules are to be covered
count_usable : IsUsable count_task
count_usable = record {
  increasing = (omega arith, tt);
  are_rules = All-from_recursion (λ n. n < 2) (0 ∷ 1 ∷ []) (omega arith, (omega arith, tt));
  closed = inl refl;
}

pub identity_proved : Proves identity_symbols identity_system.rules identity_pairs ((0 ∷ 1 ∷ []) ∷ []) identity_nodes
identity_proved =
    one_proved (by_blocks blocks_are (more_sets (one_set 0) (more_sets (one_set 1) no_sets)))
    (one_proved (by_poly count_covering count_usable none_kept) (one_proved by_done (one_proved (by_alone (none_follows 1)) all_proved)))

-- the set has all pairs
pub both_pairs : (n : ℕ) → n < length identity_pairs → Contains (0 ∷ 1 ∷ []) n
both_pairs zero less = at_head (1 ∷ []) 0
both_pairs (suc zero) less = behind (1 ∷ []) 0 1 (at_head [] 1)
both_pairs (suc (suc n)) less = absurd (omega arith)
