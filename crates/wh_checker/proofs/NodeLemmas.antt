-- Of which numbers the sets are that a node leaves.
use Rattle.std.proofs.Common.{ℕ, suc, List, [], ◌∷◌, All, refl}
use Rattle.std.proofs.lemmas.List.Elements.{All-nil, All-cons, All-contains}
use Rattle.wh_pairs.specs.PairData.{PairData}
use Rattle.wh_terms.specs.Rules.{RewriteRule}
use Rattle.wh_terms.specs.Typing.{Symbols}
use Rattle.wh_pairs.proofs.ByPlace.{place_of}
use Rattle.wh_graph.specs.Components.{IsIn}
use Rattle.wh_proof.specs.Nodes.{Node, done, alone, blocks, subterm, poly, order, AreSetsOf, no_sets, more_sets, Leaves, by_done, by_alone, by_blocks, by_subterm, by_poly, by_order}
use Rattle.wh_pairs.proofs.SetLemmas.{all_from_members}

sets_within : (P : ℕ → Type 0) (parts sets : List (List ℕ)) → AreSetsOf parts sets → ((i n : ℕ) → IsIn parts i n → P n) → All (All P) sets
sets_within P [] [] no_sets each = All-nil (All P)
sets_within P (part ∷ parts) (set ∷ sets) (more_sets is rest) each =
    All-cons (All P) set sets
    (all_from_members P set (λ n found. let at = place_of part n ((is.each n).0 found) in each 0 n (at.0, (part, refl, at.1))))
    (sets_within P parts sets rest (λ i n (k, (list, at, stands)). each (suc i) n (k, (list, at, stands))))
sets_within P [] (set ∷ sets) none each = elim none [ ]
sets_within P (part ∷ parts) [] none each = elim none [ ]

-- what holds of the numbers of a set holds of those of what is left of it
pub left_within : (S : Symbols) (rules : List RewriteRule) (ps : List PairData) (P : ℕ → Type 0) (set : List ℕ) (node : Node)
    (left : List (List ℕ)) → Leaves S rules ps set node left → All P set → All (All P) left
left_within S rules ps P set done [] by_done all = All-nil (All P)
left_within S rules ps P set alone [] (by_alone free) all = All-nil (All P)
left_within S rules ps P set (blocks parts) left (by_blocks are sets) all =
    sets_within P parts left sets (λ i n found. All-contains P set n all (are.partition.within i n found))
left_within S rules ps P set (subterm args drop) left (by_subterm {rest = rest} is rest_is) all =
    All-cons (All P) rest [] (all_from_members P rest (λ n found. All-contains P set n all ((rest_is.each n).0 found).0)) (All-nil (All P))
left_within S rules ps P set (poly covered R E) left (by_poly {rest = rest} is whole rest_is) all =
    All-cons (All P) rest [] (all_from_members P rest (λ n found. All-contains P set n all ((rest_is.each n).0 found).0)) (All-nil (All P))
left_within S rules ps P set (order D E) left (by_order {rest = rest} is rest_is) all =
    All-cons (All P) rest [] (all_from_members P rest (λ n found. All-contains P set n all ((rest_is.each n).0 found).0)) (All-nil (All P))
left_within S rules ps P set done (_ ∷ _) leaves all = elim leaves [ ]
left_within S rules ps P set alone (_ ∷ _) leaves all = elim leaves [ ]
