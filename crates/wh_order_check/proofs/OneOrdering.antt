-- Of the things that can be wrong with a node of a path order one at most is the first, and none is where its conditions hold.
use Rattle.std.proofs.Common.{◌≡◌, ℕ, ◌<◌, Bool, true, false, Option, Some, None, slice_get, refl, sym, ap, ap₂, subst, ◌∙◌, arith}
use Rattle.wh_terms.specs.Rules.{RewriteRule}
use Rattle.wh_pairs.specs.PairData.{PairData}
use Rattle.wh_pairs.proofs.ByPlace.{contains_at, some_one}
use Rattle.wh_reduction_pairs.specs.TaskData.{TaskData}
use Rattle.wh_reduction_pairs.specs.ReductionPair.{Evidence}
use Rattle.wh_reduction_pairs.specs.FirstFault.{AreCounted}
use Rattle.wh_reduction_pairs.proofs.Lines.{rule_or_not, pair_or_not, first_rule_one, first_pair_one, counted_of, counted_not_bad}
use Rattle.wh_order_inference.specs.Inferences.{Inference}
use Rattle.wh_polycheck.specs.Marks.{marked_types}
use Rattle.wh_order_node.specs.Filterings.{FilteringData, MarkFilter, IsProperAsWritten, AreProperSymbols, AreProperMarks}
use Rattle.wh_order_node.specs.Ordering.{HasNarrowSides, HasNarrowCalls, IsGoodRule, IsGoodPair, IsStrictWhere, by_inferences, IsOrdering}
use Rattle.wh_order_check.specs.OrderingFaults.{IsFirstImproper, IsFirstImproperMark, narrow_lines, wide_lines, good_lines, bad_lines, strict_lines, weak_lines, AreNarrowRules, AreNarrowPairs, AreGoodRules, AreGoodPairs, AreStrictPairs, IsFirstWideRule, IsFirstWidePair, IsFirstBadRule, IsFirstBadPair, IsFirstWeakPair, IsFirstOrderingFault}
use Rattle.wh_order_check.specs.declared.fault.OrderingFault.{OrderingFault}
use Rattle.wh_order_check.specs.declared.fault.OrderingFault.TheVariants.{BadFilter, BadLines, BadDrop, WideRule, WidePair, BadRule, BadPair, NotStrict}

neither_below : (m n : ℕ) → (m < n → ⊥) → (n < m → ⊥) → m ≡ n
neither_below m n above below = omega (arith, above, below)

none_or_some : {A : Type 0} {o : Option A} {a : A} → o ≡ None → o ≡ Some a → ⊥
none_or_some none some = cc

-- two faults of lines of which nothing but the line is told are alike
abbrev Any : Unit {0} → Unit {0} → Type 0
Any f g = Unit {0}

-- two numbers of bad inferences are alike if they are one
abbrev Same : ℕ → ℕ → Type 0
Same e h = e ≡ h

module _ (T : TaskData) (D : FilteringData) (E : Evidence Inference) where
  -- filters

  proper_or_not : (f : ℕ) → IsFirstImproper T.symbols D f → AreProperSymbols T.symbols D → ⊥
  proper_or_not f (a, w, at, here, not, before) proper = not (proper f a w at here)

  improper_one : (f g : ℕ) → IsFirstImproper T.symbols D f → IsFirstImproper T.symbols D g → f ≡ g
  improper_one f g (a, w, at, here, not, before) (b, u, also, there, neither, earlier) =
      neither_below f g (λ less. not (earlier f a w less at here)) (λ less. neither (before g b u less also there))

  marks_proper_or_not : (f : ℕ) → IsFirstImproperMark T.symbols T.rules D f → AreProperMarks T.symbols T.rules D → ⊥
  marks_proper_or_not f (i, m, at, is, not, before) proper =
      not (subst (λ n. IsProperAsWritten (marked_types T.symbols T.rules n) m.filter) is (proper i m at))

  improper_mark_one : (f g : ℕ) → IsFirstImproperMark T.symbols T.rules D f → IsFirstImproperMark T.symbols T.rules D g → f ≡ g
  improper_mark_one f g (i, m, at, is, not, before) (j, n, also, same, neither, earlier) =
      let place : i ≡ j = neither_below i j
      (λ less. not (subst (λ x. IsProperAsWritten (marked_types T.symbols T.rules x) m.filter) is (earlier i m less at)))
      (λ less. neither (subst (λ x. IsProperAsWritten (marked_types T.symbols T.rules x) n.filter) same (before j n less also))) in
      let one : m ≡ n = some_one (sym (ap (slice_get D.marks) place) ∙ at) also in
      sym is ∙ ap (λ (x : MarkFilter). x.symbol) one ∙ same

  -- sides

  wide_rule_not : (r : RewriteRule) (i : Inference) (f : Unit {0}) → HasNarrowSides T.symbols r → (HasNarrowSides T.symbols r → ⊥) → ⊥
  wide_rule_not r i f narrow wide = wide narrow

  wide_pair_not : (p : PairData) (strict : Bool) (i : Inference) (f : Unit {0}) → HasNarrowCalls T.symbols p
      → (HasNarrowCalls T.symbols p → ⊥) → ⊥
  wide_pair_not p strict i f narrow wide = wide narrow

  wide_rule_one : (r : RewriteRule) (i : Inference) (f g : Unit {0}) → (HasNarrowSides T.symbols r → ⊥) → (HasNarrowSides T.symbols r → ⊥)
      → Any f g
  wide_rule_one r i f g wide also = tt

  wide_pair_one : (p : PairData) (strict : Bool) (i : Inference) (f g : Unit {0}) → (HasNarrowCalls T.symbols p → ⊥)
      → (HasNarrowCalls T.symbols p → ⊥) → Any f g
  wide_pair_one p strict i f g wide also = tt

  narrow_or_wide_rule : (r : ℕ) → IsFirstWideRule T D E r → AreNarrowRules T D E → ⊥
  narrow_or_wide_rule r (i, before, wide) narrow =
      rule_or_not (narrow_lines T.symbols) (wide_lines T.symbols) T Any wide_rule_not wide_pair_not E.of_rules i r tt wide (narrow i)

  narrow_or_wide_pair : (n : ℕ) → IsFirstWidePair T D E n → AreNarrowPairs T D E → ⊥
  narrow_or_wide_pair n (i, before, wide) narrow =
      pair_or_not (narrow_lines T.symbols) (wide_lines T.symbols) T Any wide_rule_not wide_pair_not E.of_pairs E.drop i n tt wide (narrow i)

  wide_rules_one : (r t : ℕ) → IsFirstWideRule T D E r → IsFirstWideRule T D E t → r ≡ t
  wide_rules_one r t first other =
      (first_rule_one (narrow_lines T.symbols) (wide_lines T.symbols) T Any wide_rule_not wide_pair_not wide_rule_one wide_pair_one
      E.of_rules r t tt tt first other).0

  wide_pairs_one : (n m : ℕ) → IsFirstWidePair T D E n → IsFirstWidePair T D E m → n ≡ m
  wide_pairs_one n m first other =
      (first_pair_one (narrow_lines T.symbols) (wide_lines T.symbols) T Any wide_rule_not wide_pair_not wide_rule_one wide_pair_one
      E.of_pairs E.drop n m tt tt first other).0

  -- inferences

  bad_rule_not : (r : RewriteRule) (i : Inference) (e : ℕ) → IsGoodRule T.symbols T.rules D r i
      → (bad_lines T.symbols T.rules D).rule r i e → ⊥
  bad_rule_not r i e good bad = none_or_some good bad

  bad_pair_not : (p : PairData) (strict : Bool) (i : Inference) (e : ℕ) → IsGoodPair T.symbols T.rules D p i
      → (bad_lines T.symbols T.rules D).pair p strict i e → ⊥
  bad_pair_not p strict i e good bad = none_or_some good bad

  bad_rule_one : (r : RewriteRule) (i : Inference) (e h : ℕ) → (bad_lines T.symbols T.rules D).rule r i e
      → (bad_lines T.symbols T.rules D).rule r i h → Same e h
  bad_rule_one r i e h bad also = some_one bad also

  bad_pair_one : (p : PairData) (strict : Bool) (i : Inference) (e h : ℕ) → (bad_lines T.symbols T.rules D).pair p strict i e
      → (bad_lines T.symbols T.rules D).pair p strict i h → Same e h
  bad_pair_one p strict i e h bad also = some_one bad also

  good_or_bad_rule : (r e : ℕ) → IsFirstBadRule T D E r e → AreGoodRules T D E → ⊥
  good_or_bad_rule r e (i, before, bad) good =
      rule_or_not (good_lines T.symbols T.rules D) (bad_lines T.symbols T.rules D) T Same bad_rule_not bad_pair_not E.of_rules i r e bad
      (good i)

  good_or_bad_pair : (n e : ℕ) → IsFirstBadPair T D E n e → AreGoodPairs T D E → ⊥
  good_or_bad_pair n e (i, before, bad) good =
      pair_or_not (good_lines T.symbols T.rules D) (bad_lines T.symbols T.rules D) T Same bad_rule_not bad_pair_not E.of_pairs E.drop i n e
      bad (good i)

  bad_rules_one : (r t e h : ℕ) → IsFirstBadRule T D E r e → IsFirstBadRule T D E t h → (r ≡ t) × (e ≡ h)
  bad_rules_one r t e h first other =
      first_rule_one (good_lines T.symbols T.rules D) (bad_lines T.symbols T.rules D) T Same bad_rule_not bad_pair_not bad_rule_one
      bad_pair_one E.of_rules r t e h first other

  bad_pairs_one : (n m e h : ℕ) → IsFirstBadPair T D E n e → IsFirstBadPair T D E m h → (n ≡ m) × (e ≡ h)
  bad_pairs_one n m e h first other =
      first_pair_one (good_lines T.symbols T.rules D) (bad_lines T.symbols T.rules D) T Same bad_rule_not bad_pair_not bad_rule_one
      bad_pair_one E.of_pairs E.drop n m e h first other

  -- dropped pairs

  weak_rule_not : (r : RewriteRule) (i : Inference) (f : Unit {0}) → Unit {0} → ⊥ → ⊥
  weak_rule_not r i f any none = none

  weak_pair_not : (p : PairData) (strict : Bool) (i : Inference) (f : Unit {0}) → IsStrictWhere strict i → (IsStrictWhere strict i → ⊥) → ⊥
  weak_pair_not p strict i f is weak = weak is

  weak_rule_one : (r : RewriteRule) (i : Inference) (f g : Unit {0}) → ⊥ → ⊥ → Any f g
  weak_rule_one r i f g none also = tt

  weak_pair_one : (p : PairData) (strict : Bool) (i : Inference) (f g : Unit {0}) → (IsStrictWhere strict i → ⊥)
      → (IsStrictWhere strict i → ⊥) → Any f g
  weak_pair_one p strict i f g weak also = tt

  strict_or_weak : (n : ℕ) → IsFirstWeakPair T D E n → AreStrictPairs T D E → ⊥
  strict_or_weak n (i, before, weak) strict =
      pair_or_not strict_lines weak_lines T Any weak_rule_not weak_pair_not E.of_pairs E.drop i n tt weak (strict i)

  weak_pairs_one : (n m : ℕ) → IsFirstWeakPair T D E n → IsFirstWeakPair T D E m → n ≡ m
  weak_pairs_one n m first other =
      (first_pair_one strict_lines weak_lines T Any weak_rule_not weak_pair_not weak_rule_one weak_pair_one E.of_pairs E.drop n m tt tt
      first other).0

  pub ordering_fault_one : (f g : OrderingFault) → IsFirstOrderingFault T D E f → IsFirstOrderingFault T D E g → f ≡ g
  ordering_fault_one (BadFilter f false) (BadFilter g false) first other = ap (λ x. BadFilter x false) (improper_one f g first other)
  ordering_fault_one (BadFilter f false) (BadFilter g true) first other = absurd (proper_or_not f first other.0)
  ordering_fault_one (BadFilter f false) BadLines first other = absurd (proper_or_not f first other.0.symbols)
  ordering_fault_one (BadFilter f false) BadDrop first other = absurd (proper_or_not f first other.0.symbols)
  ordering_fault_one (BadFilter f false) (WideRule t) first other = absurd (proper_or_not f first other.0.proper.symbols)
  ordering_fault_one (BadFilter f false) (WidePair m) first other = absurd (proper_or_not f first other.0.proper.symbols)
  ordering_fault_one (BadFilter f false) (BadRule t h) first other = absurd (proper_or_not f first other.0.proper.symbols)
  ordering_fault_one (BadFilter f false) (BadPair m h) first other = absurd (proper_or_not f first other.0.proper.symbols)
  ordering_fault_one (BadFilter f false) (NotStrict m) first other = absurd (proper_or_not f first other.0.proper.symbols)
  ordering_fault_one (BadFilter f true) (BadFilter g false) first other = absurd (proper_or_not g other first.0)
  ordering_fault_one (BadFilter f true) (BadFilter g true) first other = ap (λ x. BadFilter x true) (improper_mark_one f g first.1 other.1)
  ordering_fault_one (BadFilter f true) BadLines first other = absurd (marks_proper_or_not f first.1 other.0.marks)
  ordering_fault_one (BadFilter f true) BadDrop first other = absurd (marks_proper_or_not f first.1 other.0.marks)
  ordering_fault_one (BadFilter f true) (WideRule t) first other = absurd (marks_proper_or_not f first.1 other.0.proper.marks)
  ordering_fault_one (BadFilter f true) (WidePair m) first other = absurd (marks_proper_or_not f first.1 other.0.proper.marks)
  ordering_fault_one (BadFilter f true) (BadRule t h) first other = absurd (marks_proper_or_not f first.1 other.0.proper.marks)
  ordering_fault_one (BadFilter f true) (BadPair m h) first other = absurd (marks_proper_or_not f first.1 other.0.proper.marks)
  ordering_fault_one (BadFilter f true) (NotStrict m) first other = absurd (marks_proper_or_not f first.1 other.0.proper.marks)
  ordering_fault_one BadLines (BadFilter g false) first other = absurd (proper_or_not g other first.0.symbols)
  ordering_fault_one BadLines (BadFilter g true) first other = absurd (marks_proper_or_not g other.1 first.0.marks)
  ordering_fault_one BadLines BadLines first other = refl
  ordering_fault_one BadLines BadDrop first other = absurd (other.1 first.1)
  ordering_fault_one BadLines (WideRule t) first other = absurd (counted_not_bad other.0.counted first.1)
  ordering_fault_one BadLines (WidePair m) first other = absurd (counted_not_bad other.0.counted first.1)
  ordering_fault_one BadLines (BadRule t h) first other = absurd (counted_not_bad other.0.counted first.1)
  ordering_fault_one BadLines (BadPair m h) first other = absurd (counted_not_bad other.0.counted first.1)
  ordering_fault_one BadLines (NotStrict m) first other = absurd (counted_not_bad other.0.counted first.1)
  ordering_fault_one BadDrop (BadFilter g false) first other = absurd (proper_or_not g other first.0.symbols)
  ordering_fault_one BadDrop (BadFilter g true) first other = absurd (marks_proper_or_not g other.1 first.0.marks)
  ordering_fault_one BadDrop BadLines first other = absurd (first.1 other.1)
  ordering_fault_one BadDrop BadDrop first other = refl
  ordering_fault_one BadDrop (WideRule t) first other = absurd (other.0.counted.good_drop first.2)
  ordering_fault_one BadDrop (WidePair m) first other = absurd (other.0.counted.good_drop first.2)
  ordering_fault_one BadDrop (BadRule t h) first other = absurd (other.0.counted.good_drop first.2)
  ordering_fault_one BadDrop (BadPair m h) first other = absurd (other.0.counted.good_drop first.2)
  ordering_fault_one BadDrop (NotStrict m) first other = absurd (other.0.counted.good_drop first.2)
  ordering_fault_one (WideRule r) (BadFilter g false) first other = absurd (proper_or_not g other first.0.proper.symbols)
  ordering_fault_one (WideRule r) (BadFilter g true) first other = absurd (marks_proper_or_not g other.1 first.0.proper.marks)
  ordering_fault_one (WideRule r) BadLines first other = absurd (counted_not_bad first.0.counted other.1)
  ordering_fault_one (WideRule r) BadDrop first other = absurd (first.0.counted.good_drop other.2)
  ordering_fault_one (WideRule r) (WideRule t) first other = ap WideRule (wide_rules_one r t first.1 other.1)
  ordering_fault_one (WideRule r) (WidePair m) first other = absurd (narrow_or_wide_rule r first.1 other.1)
  ordering_fault_one (WideRule r) (BadRule t h) first other = absurd (narrow_or_wide_rule r first.1 other.1)
  ordering_fault_one (WideRule r) (BadPair m h) first other = absurd (narrow_or_wide_rule r first.1 other.1)
  ordering_fault_one (WideRule r) (NotStrict m) first other = absurd (narrow_or_wide_rule r first.1 other.1)
  ordering_fault_one (WidePair n) (BadFilter g false) first other = absurd (proper_or_not g other first.0.proper.symbols)
  ordering_fault_one (WidePair n) (BadFilter g true) first other = absurd (marks_proper_or_not g other.1 first.0.proper.marks)
  ordering_fault_one (WidePair n) BadLines first other = absurd (counted_not_bad first.0.counted other.1)
  ordering_fault_one (WidePair n) BadDrop first other = absurd (first.0.counted.good_drop other.2)
  ordering_fault_one (WidePair n) (WideRule t) first other = absurd (narrow_or_wide_rule t other.1 first.1)
  ordering_fault_one (WidePair n) (WidePair m) first other = ap WidePair (wide_pairs_one n m first.2 other.2)
  ordering_fault_one (WidePair n) (BadRule t h) first other = absurd (narrow_or_wide_pair n first.2 other.2)
  ordering_fault_one (WidePair n) (BadPair m h) first other = absurd (narrow_or_wide_pair n first.2 other.2)
  ordering_fault_one (WidePair n) (NotStrict m) first other = absurd (narrow_or_wide_pair n first.2 other.2)
  ordering_fault_one (BadRule r e) (BadFilter g false) first other = absurd (proper_or_not g other first.0.proper.symbols)
  ordering_fault_one (BadRule r e) (BadFilter g true) first other = absurd (marks_proper_or_not g other.1 first.0.proper.marks)
  ordering_fault_one (BadRule r e) BadLines first other = absurd (counted_not_bad first.0.counted other.1)
  ordering_fault_one (BadRule r e) BadDrop first other = absurd (first.0.counted.good_drop other.2)
  ordering_fault_one (BadRule r e) (WideRule t) first other = absurd (narrow_or_wide_rule t other.1 first.1)
  ordering_fault_one (BadRule r e) (WidePair m) first other = absurd (narrow_or_wide_pair m other.2 first.2)
  ordering_fault_one (BadRule r e) (BadRule t h) first other = let (rule, entry) = bad_rules_one r t e h first.3 other.3 in ap₂ BadRule rule entry
  ordering_fault_one (BadRule r e) (BadPair m h) first other = absurd (good_or_bad_rule r e first.3 other.3)
  ordering_fault_one (BadRule r e) (NotStrict m) first other = absurd (good_or_bad_rule r e first.3 other.3)
  ordering_fault_one (BadPair n e) (BadFilter g false) first other = absurd (proper_or_not g other first.0.proper.symbols)
  ordering_fault_one (BadPair n e) (BadFilter g true) first other = absurd (marks_proper_or_not g other.1 first.0.proper.marks)
  ordering_fault_one (BadPair n e) BadLines first other = absurd (counted_not_bad first.0.counted other.1)
  ordering_fault_one (BadPair n e) BadDrop first other = absurd (first.0.counted.good_drop other.2)
  ordering_fault_one (BadPair n e) (WideRule t) first other = absurd (narrow_or_wide_rule t other.1 first.1)
  ordering_fault_one (BadPair n e) (WidePair m) first other = absurd (narrow_or_wide_pair m other.2 first.2)
  ordering_fault_one (BadPair n e) (BadRule t h) first other = absurd (good_or_bad_rule t h other.3 first.3)
  ordering_fault_one (BadPair n e) (BadPair m h) first other = let (pair, entry) = bad_pairs_one n m e h first.4 other.4 in ap₂ BadPair pair entry
  ordering_fault_one (BadPair n e) (NotStrict m) first other = absurd (good_or_bad_pair n e first.4 other.4)
  ordering_fault_one (NotStrict n) (BadFilter g false) first other = absurd (proper_or_not g other first.0.proper.symbols)
  ordering_fault_one (NotStrict n) (BadFilter g true) first other = absurd (marks_proper_or_not g other.1 first.0.proper.marks)
  ordering_fault_one (NotStrict n) BadLines first other = absurd (counted_not_bad first.0.counted other.1)
  ordering_fault_one (NotStrict n) BadDrop first other = absurd (first.0.counted.good_drop other.2)
  ordering_fault_one (NotStrict n) (WideRule t) first other = absurd (narrow_or_wide_rule t other.1 first.1)
  ordering_fault_one (NotStrict n) (WidePair m) first other = absurd (narrow_or_wide_pair m other.2 first.2)
  ordering_fault_one (NotStrict n) (BadRule t h) first other = absurd (good_or_bad_rule t h other.3 first.3)
  ordering_fault_one (NotStrict n) (BadPair m h) first other = absurd (good_or_bad_pair m h other.4 first.4)
  ordering_fault_one (NotStrict n) (NotStrict m) first other = ap NotStrict (weak_pairs_one n m first.5 other.5)

  -- where the conditions hold

  module _ (is : IsOrdering T D E) where
    counted : AreCounted T E
    counted = counted_of (by_inferences T.symbols T.rules D) T E is.lines

    all_narrow_rules : AreNarrowRules T D E
    all_narrow_rules k n r l at there here = is.narrow.of_rules n r (contains_at T.covered k n at) there

    all_narrow_pairs : AreNarrowPairs T D E
    all_narrow_pairs k n p l strict at there here dropped = is.narrow.of_pairs n p (contains_at T.set k n at) there

    all_good_rules : AreGoodRules T D E
    all_good_rules k n r l at there here = is.lines.rules k n r l at there here

    all_good_pairs : AreGoodPairs T D E
    all_good_pairs k n p l strict at there here dropped = (is.lines.pairs k n p l strict at there here dropped).0

    all_strict_pairs : AreStrictPairs T D E
    all_strict_pairs k n p l strict at there here dropped = (is.lines.pairs k n p l strict at there here dropped).1

    pub ordering_or_fault : (f : OrderingFault) → IsFirstOrderingFault T D E f → ⊥
    ordering_or_fault (BadFilter f false) first = proper_or_not f first is.symbols
    ordering_or_fault (BadFilter f true) first = marks_proper_or_not f first.1 is.marks
    ordering_or_fault BadLines first = counted_not_bad counted first.1
    ordering_or_fault BadDrop first = counted.good_drop first.2
    ordering_or_fault (WideRule r) first = narrow_or_wide_rule r first.1 all_narrow_rules
    ordering_or_fault (WidePair n) first = narrow_or_wide_pair n first.2 all_narrow_pairs
    ordering_or_fault (BadRule r e) first = good_or_bad_rule r e first.3 all_good_rules
    ordering_or_fault (BadPair n e) first = good_or_bad_pair n e first.4 all_good_pairs
    ordering_or_fault (NotStrict n) first = strict_or_weak n first.5 all_strict_pairs
