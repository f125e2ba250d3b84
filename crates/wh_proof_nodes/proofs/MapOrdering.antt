-- The path order of the worked system: no rule grows, and its one pair shrinks. Verdicts on lines and sizes of sides
-- are seen by computing.
use Rattle.std.proofs.Common.{◌≡◌, ◌≢◌, ◌<◌, ℕ, zero, suc, [], ◌∷◌, Bool, true, false, Some, slice_get, Contains, refl, sym, ◌∙◌, subst, subst₂, arith}
use Rattle.std.proofs.lemmas.List.Elements.{All-from_recursion, All-nil, All-cons}
use Rattle.wh_types.specs.Ty.{Ty, ◌⇒◌, arguments}
use Rattle.wh_terms.specs.Rules.{RewriteRule}
use Rattle.wh_pairs.specs.PairData.{PairData}
use Rattle.wh_pairs.proofs.MemberLemmas.{at_head}
use Rattle.wh_pairs.proofs.FewLemmas.{get_one, get_two}
use Rattle.wh_reduction_pairs.specs.ReductionPair.{Showing, IsRightRule, IsRightPair}
use Rattle.wh_polycheck.specs.Marks.{marked_types}
use Rattle.wh_order_inference.specs.Inferences.{same_trees, Inference, letter_of}
use Rattle.wh_order_inference.specs.FilterText.{WrittenFilter, keeps}
use Rattle.wh_order_extended.specs.Long.{expand, core, cores}
use Rattle.wh_order_extended.specs.Filtered.{sift, sifts}
use Rattle.wh_order_node.specs.Filterings.{MarkFilter, IsProperAsWritten, AreProperSymbols, AreProperMarks}
use Rattle.wh_order_node.specs.Ordering.{IsGoodRule, IsGoodPair, by_inferences, HasNarrowSides, HasNarrowCalls, IsStrictWhere, IsOrdering}
use Rattle.wh_proof_nodes.specs.MapSystem.{nat, list, map_symbols, map_nil, map_cons, map_system, map_pair}
use Rattle.wh_proof_nodes.specs.MapOrder.{map_filters, nil_line, cons_line, pair_line, map_inferences, map_task}
use Rattle.wh_proof_nodes.proofs.MapProof.{map_is_marked}

-- the filters are proper

abbrev IsPlace : ℕ → Type 0
IsPlace n = 0 < n

nothing_kept : (prec : ℕ) → IsProperAsWritten [] (keeps prec [])
nothing_kept prec = record { counted = All-nil IsPlace; proper = tt }

one_kept : (prec : ℕ) (a : Ty) → IsProperAsWritten (a ∷ []) (keeps prec (1 ∷ []))
one_kept prec a = record { counted = All-cons IsPlace 1 [] (omega arith) (All-nil IsPlace); proper = (omega arith, omega arith, tt) }

both_kept : (prec : ℕ) (a b : Ty) → IsProperAsWritten (a ∷ b ∷ []) (keeps prec (1 ∷ 2 ∷ []))
both_kept prec a b = record {
  counted = All-from_recursion IsPlace (1 ∷ 2 ∷ []) (omega arith, (omega arith, tt));
  proper = (omega arith, omega arith, (omega arith, omega arith, tt));
}

second_kept : (prec : ℕ) (a b : Ty) → IsProperAsWritten (a ∷ b ∷ []) (keeps prec (2 ∷ []))
second_kept prec a b = record {
  counted = All-cons IsPlace 2 [] (omega arith) (All-nil IsPlace);
  proper = (omega arith, omega arith, tt);
}

proper_at : (a b : Ty) (v w : WrittenFilter) → a ≡ b → v ≡ w → IsProperAsWritten (arguments a) v → IsProperAsWritten (arguments b) w
proper_at a b v w types filters proper = subst₂ (λ a w. IsProperAsWritten (arguments a) w) types filters proper

symbols_proper : AreProperSymbols map_symbols map_filters
symbols_proper zero a w known at = proper_at nat a (keeps 0 []) w (cc) (cc) (nothing_kept 0)
symbols_proper (suc zero) a w known at = proper_at (nat ⇒ nat) a (keeps 0 (1 ∷ [])) w (cc) (cc) (one_kept 0 nat)
symbols_proper (suc (suc zero)) a w known at = proper_at list a (keeps 0 []) w (cc) (cc) (nothing_kept 0)
symbols_proper (suc (suc (suc zero))) a w known at =
    proper_at (nat ⇒ list ⇒ list) a (keeps 1 (1 ∷ 2 ∷ [])) w (cc) (cc) (both_kept 1 nat list)
symbols_proper (suc (suc (suc (suc zero)))) a w known at =
    proper_at ((nat ⇒ nat) ⇒ list ⇒ list) a (keeps 2 (1 ∷ 2 ∷ [])) w (cc) (cc) (both_kept 2 (nat ⇒ nat) list)
symbols_proper (suc (suc (suc (suc (suc f))))) a w known at = absurd (cc)

marks_proper : AreProperMarks map_symbols map_system.rules map_filters
marks_proper i m at =
    subst (λ (m : MarkFilter). IsProperAsWritten (marked_types map_symbols map_system.rules m.symbol) m.filter)
    (get_one (record { symbol = 4; filter = keeps 0 (2 ∷ []) }) m i at).1 (second_kept 0 (nat ⇒ nat) list)

-- the sides are narrow

nil_narrow : HasNarrowSides map_symbols map_nil
unfolding core cores expand
nil_narrow = (omega arith, omega arith)

cons_narrow : HasNarrowSides map_symbols map_cons
unfolding core cores expand
cons_narrow = (omega arith, omega arith)

calls_narrow : HasNarrowCalls map_symbols map_pair
unfolding core cores expand
calls_narrow = (omega arith, omega arith)

-- the inferences are good

nil_good : IsGoodRule map_symbols map_system.rules map_filters map_nil nil_line
unfolding sift sifts core cores expand
nil_good = refl

cons_good : IsGoodRule map_symbols map_system.rules map_filters map_cons cons_line
unfolding sift sifts core cores expand
cons_good = refl

pair_good : IsGoodPair map_symbols map_system.rules map_filters map_pair pair_line
unfolding sift sifts core cores expand
pair_good = refl

pair_strict : letter_of pair_line ≢ same_trees
pair_strict e = absurd (cc)

-- what the inferences show

abbrev shows : Showing Inference
shows = by_inferences map_symbols map_system.rules map_filters

right_line : (q r : RewriteRule) (j i : Inference) → q ≡ r → j ≡ i → shows.rule q j → shows.rule r i
right_line q r j i rule line good = subst₂ (λ (r : RewriteRule) (i : Inference). shows.rule r i) rule line good

rules_right : (k : ℕ) → IsRightRule shows map_task map_inferences.of_rules k
rules_right k n r i at here line =
    get_two (λ k n. slice_get map_system.rules n ≡ Some r → slice_get map_inferences.of_rules k ≡ Some i → shows.rule r i) 0 1
    (λ here line. right_line map_nil r nil_line i (cc) (cc) nil_good)
    (λ here line. right_line map_cons r cons_line i (cc) (cc) cons_good)
    k n at here line

-- the pair with the one number of the set
the_pair : (n : ℕ) (p : PairData) → slice_get (map_pair ∷ []) n ≡ Some p → map_pair ≡ p
the_pair n p at = (get_one map_pair p n at).1

strict_where : (strict : Bool) → IsStrictWhere strict pair_line
strict_where true = pair_strict
strict_where false = tt

pairs_right : (k : ℕ) → IsRightPair shows map_task map_inferences.of_pairs map_inferences.drop k
pairs_right k n p i strict here at line dropped =
    subst₂ (λ (p : PairData) (i : Inference). shows.pair p strict i) (the_pair n p at) (get_one pair_line i k line).1
    (pair_good, strict_where strict)

-- the conditions of the node
pub map_ordering : IsOrdering map_task map_filters map_inferences
map_ordering = record {
  filters = record { each_symbol = refl; marked = map_is_marked };
  symbols = symbols_proper;
  marks = marks_proper;
  narrow = record {
    of_rules = λ n r there at.
        get_two (λ (n : ℕ) (r : RewriteRule). HasNarrowSides map_symbols r) map_nil map_cons nil_narrow cons_narrow n r at;
    of_pairs = λ n p there at. subst (HasNarrowCalls map_symbols) (the_pair n p at) calls_narrow;
  };
  lines = record {
    rule_count = refl;
    pair_count = refl;
    some_dropped = λ e. absurd (cc);
    once = λ i j n e f. (get_one 0 n i e).0 ∙ sym (get_one 0 n j f).0;
    within = All-cons (Contains (0 ∷ [])) 0 [] (at_head [] 0) (All-nil (Contains (0 ∷ [])));
    rules = rules_right;
    pairs = pairs_right;
  };
}
