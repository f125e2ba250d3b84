-- What all lines of a node of a path order say together.
use Rattle.std.proofs.Common.{◌↔◌, ℕ, List, Contains, arith}
use Rattle.std.proofs.lemmas.Option.{slice_get_within}
use Rattle.wh_pairs.proofs.ByPlace.{place_of}
use Rattle.wh_reduction_pairs.specs.TaskData.{TaskData}
use Rattle.wh_reduction_pairs.specs.ReductionPair.{Evidence, IsRightPair}
use Rattle.wh_reduction_pairs.proofs.Lines.{dropped_or_not, all_right, first_pair_same}
use Rattle.wh_order_inference.specs.Inferences.{Inference}
use Rattle.wh_poly_covering.proofs.Walks.{some_at}
use Rattle.wh_order_node.specs.Filterings.{FilteringData, AreFiltersFor}
use Rattle.wh_order_node.specs.Ordering.{AreNarrow, by_inferences, IsOrdering}
use Rattle.wh_order_check.specs.OrderingFaults.{AreNarrowRules, AreNarrowPairs, AreGoodRules, AreGoodPairs, AreStrictPairs, IsPrepared, IsFirstOrderingFault, strict_lines, weak_lines}
use Rattle.wh_order_check.specs.Found.{IsWeakPairOf}
use Rattle.wh_order_check.specs.declared.fault.OrderingFault.{OrderingFault}
use Rattle.wh_order_check.specs.declared.fault.OrderingFault.TheVariants.{BadFilter, BadLines, BadDrop, WideRule, WidePair, BadRule, BadPair, NotStrict}

module _ (T : TaskData) (D : FilteringData) (E : Evidence Inference) where
  -- a line that is asked for two things has both
  both_pairs : AreGoodPairs T D E → AreStrictPairs T D E → (i : ℕ) → IsRightPair (by_inferences T.symbols T.rules D) T E.of_pairs E.drop i
  both_pairs good strict i n p l asked at here line dropped = (good i n p l asked at here line dropped, strict i n p l asked at here line dropped)

  narrow_holds : IsPrepared T D E → AreNarrowRules T D E → AreNarrowPairs T D E → AreNarrow T
  narrow_holds ready rules pairs = record {
    of_rules = λ n r found there.
        let at = place_of T.covered n found in
        let within = slice_get_within T.covered at.0 n at.1 in
        let line = some_at E.of_rules at.0 (omega (arith, within, ready.counted.rule_count)) in
        rules at.0 n r line.0 at.1 there line.1;
    of_pairs = λ n p found there.
        let at = place_of T.set n found in
        let within = slice_get_within T.set at.0 n at.1 in
        let line = some_at E.of_pairs at.0 (omega (arith, within, ready.counted.pair_count)) in
        let asked = dropped_or_not E.drop n in
        pairs at.0 n p line.0 asked.0 at.1 there line.1 asked.1;
  }

  -- where nothing is wrong, all conditions hold
  pub ordering_holds : AreFiltersFor T D → IsPrepared T D E → AreNarrowRules T D E → AreNarrowPairs T D E → AreGoodRules T D E
      → AreGoodPairs T D E → AreStrictPairs T D E → IsOrdering T D E
  ordering_holds filters ready narrow_rules narrow_pairs rules pairs strict = record {
    filters = filters;
    symbols = ready.proper.symbols;
    marks = ready.proper.marks;
    narrow = narrow_holds ready narrow_rules narrow_pairs;
    lines = all_right (by_inferences T.symbols T.rules D) T E ready.counted rules (both_pairs pairs strict);
  }

  -- a dropped pair that does not shrink is what is wrong first where nothing else is
  pub weak_first : IsPrepared T D E → AreNarrowRules T D E → AreNarrowPairs T D E → AreGoodRules T D E → AreGoodPairs T D E
      → (f : OrderingFault) → IsWeakPairOf T E.of_pairs E.drop f → IsFirstOrderingFault T D E f
  weak_first ready narrow narrow_too rules pairs (BadFilter f marked) h = absurd h
  weak_first ready narrow narrow_too rules pairs BadLines h = absurd h
  weak_first ready narrow narrow_too rules pairs BadDrop h = absurd h
  weak_first ready narrow narrow_too rules pairs (WideRule r) h = absurd h
  weak_first ready narrow narrow_too rules pairs (WidePair n) h = absurd h
  weak_first ready narrow narrow_too rules pairs (BadRule r e) h = absurd h
  weak_first ready narrow narrow_too rules pairs (BadPair n e) h = absurd h
  weak_first ready narrow narrow_too rules pairs (NotStrict n) h = (ready, narrow, narrow_too, rules, pairs, h)

-- the fault is the first for another list of the same dropped pairs
pub weak_same : (T : TaskData) (lines : List Inference) (ns ms : List ℕ) → ((n : ℕ) → Contains ns n ↔ Contains ms n) → (f : OrderingFault)
    → IsWeakPairOf T lines ns f → IsWeakPairOf T lines ms f
weak_same T lines ns ms same (BadFilter f marked) h = absurd h
weak_same T lines ns ms same BadLines h = absurd h
weak_same T lines ns ms same BadDrop h = absurd h
weak_same T lines ns ms same (WideRule r) h = absurd h
weak_same T lines ns ms same (WidePair n) h = absurd h
weak_same T lines ns ms same (BadRule r e) h = absurd h
weak_same T lines ns ms same (BadPair n e) h = absurd h
weak_same T lines ns ms same (NotStrict n) h = first_pair_same strict_lines weak_lines T lines ns ms same n tt h
