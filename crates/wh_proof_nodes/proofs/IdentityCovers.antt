-- The polynomials of the worked system that needs interpretations: no rule grows, and its first pair shrinks.
use Rattle.std.proofs.Common.{◌≡◌, ℕ, zero, suc, List, [], ◌∷◌, Some, slice_get, Contains, inl, inr, refl, sym, ap, ◌∙◌, subst, subst₂, arith}
use Rattle.std.specs.Prelude.{◌⊎◌, Bool, true, false}
use Rattle.std.proofs.lemmas.List.Elements.{All-nil, All-cons}
use Rattle.wh_types.specs.Ty.{arguments}
use Rattle.wh_terms.specs.Rules.{RewriteRule}
use Rattle.wh_pairs.specs.PairData.{PairData}
use Rattle.wh_pairs.proofs.MemberLemmas.{none_there, at_head}
use Rattle.wh_pairs.specs.Marked.{IsMarked, AreMarked}
use Rattle.wh_poly.specs.Polynomials.{zero_poly, no_factors, times, no_arguments, Normal}
use Rattle.wh_hopoly.specs.Evaluation.{Interpretation, NormalInterpretations}
use Rattle.wh_hopoly.specs.Moves.{Transfer, Good, NotOverSpent, Covered, IsCover, IsStrictCover}
use Rattle.wh_pairs.specs.Drops.{IsDropped}
use Rattle.wh_reduction_pairs.specs.ReductionPair.{Showing, IsRightRule, IsRightPair}
use Rattle.wh_polycheck.specs.Marks.{Mark, AreNormalMarks, marked_types}
use Rattle.wh_polycheck.specs.Covering.{by_moves, IsCovering}
use Rattle.wh_proof_nodes.specs.MapSystem.{nat}
use Rattle.wh_proof_nodes.specs.IdentitySystem.{unary, identity_symbols, identity_rule, count_rule, identity_system, count_pair, identity_pairs, itself, one_more, readings, unit_from, count_moves, count_task}
use Rattle.wh_pairs.proofs.FewLemmas.{in_one, from_one, get_one, get_two}

-- the polynomials are normal

itself_normal : Normal (nat ∷ []) itself
itself_normal = (omega arith, (nat, refl, tt, tt, tt), tt, tt)

symbols_normal : NormalInterpretations readings.symbols
symbols_normal zero s e =
    let same : record { kind = unary; polynomial = one_more } ≡ s = cc in
    subst (λ (s : Interpretation). Normal (arguments s.kind) s.polynomial) same (omega arith, tt, refl, itself_normal)
symbols_normal (suc zero) s e =
    let same : record { kind = unary; polynomial = itself } ≡ s = cc in
    subst (λ (s : Interpretation). Normal (arguments s.kind) s.polynomial) same itself_normal
symbols_normal (suc (suc zero)) s e =
    let same : record { kind = unary; polynomial = zero_poly } ≡ s = cc in
    subst (λ (s : Interpretation). Normal (arguments s.kind) s.polynomial) same tt
symbols_normal (suc (suc (suc f))) s e = absurd (cc)

marks_normal : AreNormalMarks identity_symbols identity_system.rules readings.marks
marks_normal m there =
    subst (λ (m : Mark). Normal (marked_types identity_symbols identity_system.rules m.symbol) m.polynomial)
    (in_one (record { symbol = 2; polynomial = itself }) m there) itself_normal

-- the moves of the first rule: X covers X

itself_good : Good itself itself (unit_from 0)
itself_good = record {
  given = 1;
  taken = 1;
  giver = times 0 no_arguments no_factors;
  taker = times 0 no_arguments no_factors;
  source = (refl, refl);
  target = (refl, refl);
  fits = (refl, tt, tt);
}

itself_not_over_spent : (i : ℕ) → NotOverSpent itself (unit_from 0 ∷ []) i
itself_not_over_spent zero c us at = let e : 1 ≡ c = at.0 in omega arith
itself_not_over_spent (suc i) c us never = absurd never

-- a line that brings the first monomial a unit covers X
itself_covered : (j i : ℕ) → Covered itself (unit_from i ∷ []) j
itself_covered zero i c us at = let e : 1 ≡ c = at.0 in omega arith
itself_covered (suc j) i c us never = absurd never

pub itself_covers : IsCover itself itself (unit_from 0 ∷ [])
itself_covers = record {
  good = λ m there. subst (Good itself itself) (in_one (unit_from 0) m there) itself_good;
  not_over_spent = itself_not_over_spent;
  covered = λ j. itself_covered j 0;
}

-- the moves of the second rule: nothing covers nothing
nothing_covers : IsCover zero_poly zero_poly []
nothing_covers = record {
  good = λ m never. absurd (none_there m never);
  not_over_spent = λ i c us never. absurd never;
  covered = λ j c us never. absurd never;
}

-- the moves of the pair: 1 + X covers X, and the constant is left over

one_more_good : Good one_more itself (unit_from 1)
one_more_good = record {
  given = 1;
  taken = 1;
  giver = times 0 no_arguments no_factors;
  taker = times 0 no_arguments no_factors;
  source = (refl, refl);
  target = (refl, refl);
  fits = (refl, tt, tt);
}

one_more_not_over_spent : (i : ℕ) → NotOverSpent one_more (unit_from 1 ∷ []) i
one_more_not_over_spent zero c us at = omega arith
one_more_not_over_spent (suc zero) c us at = let e : 1 ≡ c = at.0 in omega arith
one_more_not_over_spent (suc (suc i)) c us never = absurd never

one_more_covers : IsStrictCover one_more itself (unit_from 1 ∷ [])
one_more_covers = record {
  cover = record {
    good = λ m there. subst (Good one_more itself) (in_one (unit_from 1) m there) one_more_good;
    not_over_spent = one_more_not_over_spent;
    covered = λ j. itself_covered j 1;
  };
  constant = 1;
  first = (refl, refl);
  left_over = omega arith;
}

-- what the moves show

abbrev pub shows : Showing (List Transfer)
shows = by_moves identity_symbols identity_system.rules readings

-- what is shown of one rule by its line
pub right_line : (u r : RewriteRule) (k ms : List Transfer) → u ≡ r → k ≡ ms → shows.rule u k → shows.rule r ms
right_line u r k ms rule line right = subst₂ (λ (r : RewriteRule) (ms : List Transfer). shows.rule r ms) rule line right

rules_covered : (i : ℕ) → IsRightRule shows count_task count_moves.of_rules i
rules_covered i n r ms at here line =
    get_two (λ i n. slice_get identity_system.rules n ≡ Some r → slice_get count_moves.of_rules i ≡ Some ms → shows.rule r ms) 0 1
    (λ here line. right_line identity_rule r (unit_from 0 ∷ []) ms (cc) (cc) itself_covers)
    (λ here line. right_line count_rule r [] ms (cc) (cc) nothing_covers)
    i n at here line

count_shrinks : shows.pair count_pair true (unit_from 1 ∷ [])
count_shrinks = one_more_covers

-- the pair with the one number of the set
pub the_pair : (n : ℕ) (p : PairData) → 0 ≡ n → slice_get identity_pairs n ≡ Some p → count_pair ≡ p
the_pair zero p e at = cc
the_pair (suc n) p e at = absurd (omega arith)

pairs_covered : (i : ℕ) → IsRightPair shows count_task count_moves.of_pairs count_moves.drop i
pairs_covered i n p ms strict here at line dropped =
    let number = (get_one 0 n i here).1 in
    let moves = (get_one (unit_from 1 ∷ []) ms i line).1 in
    subst₂ (λ (p : PairData) (ms : List Transfer). shows.pair p strict ms) (the_pair n p number at) moves
    (by_need n strict number dropped)
  where
    by_need : (n : ℕ) (strict : Bool) → 0 ≡ n → IsDropped count_moves.drop n strict → shows.pair count_pair strict (unit_from 1 ∷ [])
    by_need n true number dropped = count_shrinks
    by_need n false number stays = absurd (stays (subst (Contains (0 ∷ [])) number (at_head [] 0)))

-- the one symbol with a mark

heads : (f : ℕ) (p : PairData) → count_pair ≡ p → (f ≡ p.left_fun) ⊎ (f ≡ p.right_fun) → f ≡ 2
heads f p same (inl e) = e ∙ ap (λ (p : PairData). p.left_fun) (sym same)
heads f p same (inr e) = e ∙ ap (λ (p : PairData). p.right_fun) (sym same)

count_is_marked : AreMarked identity_pairs (0 ∷ []) (2 ∷ [])
count_is_marked = record { in_order = tt; each = λ f. (marked f, only f) }
  where
    marked : (f : ℕ) → Contains (2 ∷ []) f → IsMarked identity_pairs (0 ∷ []) f
    marked f there = (0, at_head [] 0, (count_pair, refl, inl (sym (in_one 2 f there))))

    only : (f : ℕ) → IsMarked identity_pairs (0 ∷ []) f → Contains (2 ∷ []) f
    only f (n, there, (p, found, heading)) = from_one 2 f (sym (heads f p (the_pair n p (in_one 0 n there) found) heading))

-- the conditions of the node
pub count_covering : IsCovering count_task readings count_moves
count_covering = record {
  readings = record { kinds = refl; marked = count_is_marked };
  normal = record { symbols = symbols_normal; marks = marks_normal };
  lines = record {
    rule_count = refl;
    pair_count = refl;
    some_dropped = λ e. absurd (cc);
    once = λ i j n e f. (get_one 0 n i e).0 ∙ sym (get_one 0 n j f).0;
    within = All-cons (Contains (0 ∷ [])) 0 [] (at_head [] 0) (All-nil (Contains (0 ∷ [])));
    rules = rules_covered;
    pairs = pairs_covered;
  };
}
