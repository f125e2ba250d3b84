-- The worked system is passing under equal ranks, its one pair is that of the second rule, and its nodes are a proof.
use Rattle.std.proofs.Common.{◌≡◌, ◌<◌, ℕ, inl, inr, List, [], ◌∷◌, Some, length, slice_get, Contains, refl, sym, ap, ◌∙◌, subst, arith}
use Rattle.std.specs.Prelude.{◌⊎◌}
use Rattle.std.proofs.lemmas.List.Elements.{All-from_recursion, All-nil, All-cons}
use Rattle.wh_types.specs.Ty.{Ty, ◌⇒◌}
use Rattle.wh_terms.specs.Tree.{meta, none}
use Rattle.wh_terms.specs.Substitution.{act, acts, cons, up, up_free}
use Rattle.wh_step_laws.specs.Ranks.{rank_of, IsAccessible}
use Rattle.wh_pairs.specs.PairData.{PairData}
use Rattle.wh_access.specs.Readings.{Place}
use Rattle.wh_access.specs.Passing.{AllAccessible, EachUsed, Passes, IsPassing}
use Rattle.wh_pairs.specs.Candidates.{candidates, freed}
use Rattle.wh_pairs.specs.Subsumption.{IsDropped, ArePairs, none_left, one_kept, for_earlier, for_later}
use Rattle.wh_pairs.proofs.MemberLemmas.{none_there, at_head}
use Rattle.wh_pairs.specs.Marked.{IsMarked, AreMarked}
use Rattle.wh_subterm.specs.ProperParts.{argument, last}
use Rattle.wh_subterm.specs.Projections.{Below}
use Rattle.wh_subterm.specs.SubtermRows.{IsPlace, IsProjection}
use Rattle.wh_proof.specs.Nodes.{by_done, by_subterm}
use Rattle.wh_pairs.specs.Sets.{IsSetOf, IsKept}
use Rattle.wh_proof.specs.Proves.{Proves, all_proved, one_proved}
use Rattle.wh_proof_nodes.specs.MapSystem.{nat, list, map_symbols, cons_term, map_nil, map_cons, map_system, map_pair, map_choice, map_nodes}
use Rattle.wh_pairs.proofs.FewLemmas.{in_one, from_one, get_one, each_of_two}

-- passing: the arguments of cons are of sorts, so that equal ranks do

abbrev equal_ranks : ℕ → ℕ
equal_ranks = rank_of (0 ∷ 0 ∷ [])

-- the way to an argument of cons
abbrev way_behind : ℕ → List Place
way_behind i = record { symbol = 3; index = i } ∷ []

-- where that argument is accessible, so is the way
cons_is_open : (i : ℕ) → IsAccessible map_symbols equal_ranks 3 i → AllAccessible map_symbols equal_ranks (way_behind i)
cons_is_open i accessible = All-from_recursion (λ p. IsAccessible map_symbols equal_ranks p.symbol p.index) (way_behind i) (accessible, tt)

-- the left side of the rule is read for a meta-variable
abbrev IsPassed : ℕ → Type 0
IsPassed = Passes map_symbols equal_ranks map_cons.left

map_cons_passes : EachUsed (Passes map_symbols equal_ranks) map_cons
map_cons_passes z o =
    let by : (y : ℕ) → IsPassed y → y ≡ z → IsPassed z = λ y h e. subst IsPassed e h in
    let kind : Ty = nat ⇒ list ⇒ list in
    let function = by 0 ([], refl, All-nil (λ p. IsAccessible map_symbols equal_ranks p.symbol p.index)) in
    let first = by 1 (way_behind 0, refl, cons_is_open 0 (nat, kind, refl, refl, omega arith)) in
    let rest = by 2 (way_behind 1, refl, cons_is_open 1 (list, kind, refl, refl, omega arith)) in
    elim o [
      | inl (inl never) ↦ absurd never
      | inl (inr (inl e)) ↦ function e
      | inl (inr (inr (inl (inl e)))) ↦ first e
      | inl (inr (inr (inl (inr never)))) ↦ absurd never
      | inl (inr (inr (inr never))) ↦ absurd never
      | inr (inl (inl never)) ↦ absurd never
      | inr (inl (inr (inl e))) ↦ function e
      | inr (inl (inr (inr (inl never)))) ↦ absurd never
      | inr (inl (inr (inr (inr never)))) ↦ absurd never
      | inr (inr (inl e)) ↦ rest e
      | inr (inr (inr never)) ↦ absurd never
    ]

pub map_passes : IsPassing map_system (0 ∷ 0 ∷ [])
map_passes = each_of_two (EachUsed (Passes map_symbols equal_ranks)) map_nil map_cons (λ z never. absurd never) map_cons_passes

-- pairs

map_candidates : candidates map_symbols map_system.rules ≡ map_pair ∷ []
unfolding act acts cons up up_free freed
map_candidates = refl

lone_stays : (p : PairData) → IsDropped [] p [] → ⊥
lone_stays p (for_earlier {b = b} there s) = none_there b there
lone_stays p (for_later {b = b} there s proper) = none_there b there

pub map_pairs : ArePairs (candidates map_symbols map_system.rules) (map_pair ∷ [])
map_pairs = subst (λ cs. ArePairs cs (map_pair ∷ [])) (sym map_candidates) (one_kept (lone_stays map_pair) none_left)

-- the subterm node: Y is a part of cons X Y

rest_is_part : Below (map_choice ∷ []) map_pair
rest_is_part =
    (cons_term, meta 2 none, (1, at_head [] map_choice, refl), (1, at_head [] map_choice, refl), argument tt last)

is_below : (n : ℕ) (a : PairData) → slice_get (map_pair ∷ []) n ≡ Some a → Below (map_choice ∷ []) a
is_below n a found = subst (Below (map_choice ∷ [])) (get_one map_pair a n found).1 rest_is_part

pub map_is_marked : AreMarked (map_pair ∷ []) (0 ∷ []) (4 ∷ [])
map_is_marked = record { in_order = tt; each = λ f. (marked f, only f) }
  where
    marked : (f : ℕ) → Contains (4 ∷ []) f → IsMarked (map_pair ∷ []) (0 ∷ []) f
    marked f there = (0, at_head [] 0, (map_pair, refl, inl (sym (in_one 4 f there))))

    heads : (f : ℕ) (a : PairData) → map_pair ≡ a → (f ≡ a.left_fun) ⊎ (f ≡ a.right_fun) → f ≡ 4
    heads f a same (inl e) = cc (e, ap (λ p. p.left_fun) same)
    heads f a same (inr e) = cc (e, ap (λ p. p.right_fun) same)

    only : (f : ℕ) → IsMarked (map_pair ∷ []) (0 ∷ []) f → Contains (4 ∷ []) f
    only f (n, there, (a, found, heading)) = from_one 4 f (sym (heads f a (get_one map_pair a n found).1 heading))

map_projection : IsProjection map_system.rules (map_pair ∷ []) (0 ∷ []) (map_choice ∷ []) (0 ∷ [])
map_projection = record {
  marked = map_is_marked;
  places = All-cons (IsPlace map_system.rules) map_choice [] (2, refl, omega arith, omega arith) (All-nil (IsPlace map_system.rules));
  some_dropped = λ e. absurd (cc);
  once = λ i j n e f. (get_one 0 n i e).0 ∙ sym (get_one 0 n j f).0;
  within = All-cons (Contains (0 ∷ [])) 0 [] (at_head [] 0) (All-nil (Contains (0 ∷ [])));
  decreasing = λ n a there found. inr (is_below n a found);
  below = λ n a there found. is_below n a found;
}

pub none_kept : IsSetOf (IsKept (0 ∷ []) (0 ∷ [])) []
none_kept = record {
  increasing = tt;
  each = λ n. ((λ never. absurd (none_there n never)), (λ (there, kept). absurd (kept there)));
}

pub map_proved : Proves map_symbols map_system.rules (map_pair ∷ []) ((0 ∷ []) ∷ []) map_nodes
map_proved = one_proved (by_subterm map_projection none_kept) (one_proved by_done all_proved)

-- the set has all pairs
pub whole_set : (n : ℕ) → n < length (map_pair ∷ []) → Contains (0 ∷ []) n
whole_set n less = from_one 0 n (omega (arith, less))
