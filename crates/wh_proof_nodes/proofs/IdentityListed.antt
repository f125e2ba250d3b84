-- The worked system that needs interpretations, by a node that lists one of the two rules: the list is closed for the node's set.
use Rattle.std.proofs.Common.{◌≡◌, ◌<◌, ℕ, zero, suc, inl, inr, [], ◌∷◌, Some, slice_get, Contains, refl, subst, arith}
use Rattle.std.proofs.lemmas.List.Elements.{All-nil, All-cons}
use Rattle.wh_terms.specs.Tree.{Tm, fun, head}
use Rattle.wh_terms.specs.Typing.{WellTyped}
use Rattle.wh_terms.specs.Rules.{RewriteRule}
use Rattle.wh_step.specs.Reduction.{Bounded}
use Rattle.wh_pairs.proofs.MemberLemmas.{at_head}
use Rattle.wh_pairs.proofs.FewLemmas.{in_one, get_one, get_two}
use Rattle.wh_reduction_pairs.specs.ReductionPair.{IsRightRule}
use Rattle.wh_polycheck.specs.Covering.{IsCovering}
use Rattle.wh_usable.specs.Closed.{ListsRulesOf, ListsRulesIn, IsClosedRule, IsClosedPair, AreClosedRules, AreClosedPairs, IsUsable}
use Rattle.wh_proof.specs.Nodes.{no_sets, more_sets, by_done, by_alone, by_blocks, by_poly}
use Rattle.wh_proof.specs.Proves.{Proves, all_proved, one_proved}
use Rattle.wh_proof_nodes.specs.IdentitySystem.{identity_symbols, same_number, identity_rule, count_rule, identity_system, count_pair, identity_pairs, readings, unit_from, listed_moves, listed_task, listed_nodes}
use Rattle.wh_proof_nodes.proofs.SystemLaws.{proved_systems_end}
use Rattle.wh_proof_nodes.proofs.IdentityMade.{number_typed, same_typed, identity_made}
use Rattle.wh_proof_nodes.proofs.IdentityCovers.{itself_covers, shows, right_line, the_pair, count_covering}
use Rattle.wh_proof_nodes.proofs.IdentityProof.{identity_passes, identity_pairs_are, none_follows, blocks_are, one_set, none_kept, both_pairs}

-- the one rule that is listed
the_rule : (n : ℕ) (r : RewriteRule) → 0 ≡ n → slice_get identity_system.rules n ≡ Some r → identity_rule ≡ r
the_rule zero r e at = cc
the_rule (suc n) r e at = absurd (omega arith)

rule_covered : (i : ℕ) → IsRightRule shows listed_task listed_moves.of_rules i
rule_covered i n r ms here at line =
    let number = (get_one 0 n i here).1 in
    let moves = (get_one (unit_from 0 ∷ []) ms i line).1 in
    right_line identity_rule r (unit_from 0 ∷ []) ms (the_rule n r number at) moves itself_covers

-- the conditions of the node: its rule line is the first one of the other node, and all else is the same
listed_covering : IsCovering listed_task readings listed_moves
listed_covering = record {
  readings = record { kinds = count_covering.readings.kinds; marked = count_covering.readings.marked };
  normal = count_covering.normal;
  lines = record {
    rule_count = refl;
    pair_count = refl;
    some_dropped = count_covering.lines.some_dropped;
    once = count_covering.lines.once;
    within = count_covering.lines.within;
    rules = rule_covered;
    pairs = count_covering.lines.pairs;
  };
}

-- the list is closed

-- the rule of i is that with the number 0
lists_i : (f : ℕ) → f ≡ 1 → ListsRulesOf identity_system.rules (0 ∷ []) f
lists_i f is n r at heads = get_two (λ n (r : RewriteRule). head r.left ≡ fun f → Contains (0 ∷ []) n) identity_rule count_rule
    (λ heads. at_head [] 0) (λ heads. let other : 2 ≡ f = cc in absurd (omega (arith, is, other))) n r at heads

calls_of_pair : ListsRulesIn identity_system.rules (0 ∷ []) same_number
calls_of_pair f (inl e) = lists_i f e
calls_of_pair f (inr never) = absurd never

rule_closed : IsClosedRule identity_symbols identity_system.rules (0 ∷ []) identity_rule
rule_closed = record {
  of_a_sort = (0, same_typed, number_typed);
  left = (tt, (0, refl));
  right = (0, refl);
  calls = λ f never. absurd never;
}

pair_closed : IsClosedPair identity_symbols identity_system.rules (0 ∷ []) count_pair
pair_closed = record {
  left_head = tt;
  right_head = tt;
  left = ((tt, (0, refl)), tt);
  right = ((tt, (0, refl)), tt);
  calls = (calls_of_pair, tt);
}

rules_closed : AreClosedRules listed_task
rules_closed n r there at =
    subst (IsClosedRule identity_symbols identity_system.rules (0 ∷ [])) (the_rule n r (in_one 0 n there) at) rule_closed

pairs_closed : AreClosedPairs listed_task
pairs_closed p (n, there, at) =
    subst (IsClosedPair identity_symbols identity_system.rules (0 ∷ [])) (the_pair n p (in_one 0 n there) at) pair_closed

listed_usable : IsUsable listed_task
listed_usable = record {
  increasing = tt;
  are_rules = All-cons (λ n. n < 2) 0 [] (omega arith) (All-nil (λ n. n < 2));
  closed = inr (rules_closed, pairs_closed);
}

-- so the nodes are a proof

pub listed_proved : Proves identity_symbols identity_system.rules identity_pairs ((0 ∷ 1 ∷ []) ∷ []) listed_nodes
listed_proved =
    one_proved (by_blocks blocks_are (more_sets (one_set 0) (more_sets (one_set 1) no_sets)))
    (one_proved (by_poly listed_covering listed_usable none_kept) (one_proved by_done (one_proved (by_alone (none_follows 1)) all_proved)))

pub listed_terms_end : (t : Tm) → WellTyped identity_system.symbols t → Bounded identity_system.rules t
listed_terms_end =
    proved_systems_end identity_system identity_made (0 ∷ []) identity_passes identity_pairs identity_pairs_are (0 ∷ 1 ∷ []) listed_nodes
    listed_proved both_pairs
