-- Walks over the lines of the rules and of the pairs of the set, and what all of them say together.
use Rattle.std.proofs.Common.{◌↔◌, ℕ, List, Bool, true, false, Contains, Result, Ok, Err, OnOk, arith}
use Rattle.std.proofs.lemmas.Option.{slice_get_within}
use Rattle.wh_types.specs.Outcome.{IfBecause}
use Rattle.wh_types.specs.declared.want.Or.{Or}
use Rattle.wh_types.specs.declared.want.Or.TheVariants.{NoMemory, Because}
use Rattle.wh_terms.specs.Rules.{RewriteRule}
use Rattle.wh_pairs.specs.PairData.{PairData}
use Rattle.wh_pairs.proofs.ByPlace.{place_of}
use Rattle.wh_reduction_pairs.specs.TaskData.{TaskData}
use Rattle.wh_reduction_pairs.specs.ReductionPair.{Evidence, IsRightRule, IsRightPair}
use Rattle.wh_reduction_pairs.proofs.Lines.{dropped_or_not, all_right, shows_less, first_pair_same}
use Rattle.wh_hopoly.specs.Moves.{Transfer}
use Rattle.wh_polycheck.specs.Readings.{ReadingsData, AreReadingsFor}
use Rattle.wh_polycheck.specs.Covering.{rule_run, pair_run, by_moves, IsCovering}
use Rattle.wh_polycheck.specs.Small.{Limits, with_limits, StaysWithin, IsSmall}
use Rattle.wh_poly_covering.specs.CoveringFaults.{IsRightLine, IsReady, IsFirstCoveringFault, right_lines, wrong_lines}
use Rattle.wh_poly_covering.specs.Lines.{IsFirstOfRules, IsFirstOfPairs}
use Rattle.wh_poly_covering.specs.declared.fault.CoveringFault.{CoveringFault}
use Rattle.wh_poly_covering.specs.declared.fault.CoveringFault.TheVariants.{BadPolynomial, BadLines, BadDrop, NotClosed, Rule, Pair}
use Rattle.wh_poly_covering.proofs.Walks.{some_at}

module _ (T : TaskData) (R : ReadingsData) (E : Evidence (List Transfer)) where
  abbrev pub RightRules : Limits → Type 0
  RightRules limits = (k : ℕ) → IsRightRule (right_lines limits T.symbols T.rules R) T E.of_rules k

  abbrev pub RightPairs : Limits → Type 0
  RightPairs limits = (k : ℕ) → IsRightPair (right_lines limits T.symbols T.rules R) T E.of_pairs E.drop k

  pub rule_fault_first : IsReady T R E → (f : CoveringFault) → IsFirstOfRules T R E.of_rules f → IsFirstCoveringFault with_limits T R E f
  rule_fault_first ready (BadPolynomial f marked) h = absurd h
  rule_fault_first ready BadLines h = absurd h
  rule_fault_first ready BadDrop h = absurd h
  rule_fault_first ready (NotClosed f) h = absurd h
  rule_fault_first ready (Rule r f) h = (ready, h)
  rule_fault_first ready (Pair n f) h = absurd h

  pub pair_fault_first : IsReady T R E → RightRules with_limits → (f : CoveringFault) → IsFirstOfPairs T R E.of_pairs E.drop f
      → IsFirstCoveringFault with_limits T R E f
  pair_fault_first ready right (BadPolynomial f marked) h = absurd h
  pair_fault_first ready right BadLines h = absurd h
  pair_fault_first ready right BadDrop h = absurd h
  pair_fault_first ready right (NotClosed f) h = absurd h
  pair_fault_first ready right (Rule r f) h = absurd h
  pair_fault_first ready right (Pair n f) h = (ready, right, h)

  -- where nothing is wrong, all conditions hold
  module _ (limits : Limits) (ready : IsReady T R E) (right_rules : RightRules limits) (right_pairs : RightPairs limits) where
    pub covering_holds : AreReadingsFor T R → IsCovering T R E
    covering_holds readings = record {
      readings = readings;
      normal = ready.normal;
      lines = shows_less (right_lines limits T.symbols T.rules R) (by_moves T.symbols T.rules R) T E (λ r l h. h.2) (λ p strict l h. h.2)
          (all_right (right_lines limits T.symbols T.rules R) T E ready.counted right_rules right_pairs);
    }

  module _ (ready : IsReady T R E) (right_rules : RightRules with_limits) (right_pairs : RightPairs with_limits) where
    rule_within : (r : RewriteRule) (right : Bool) (ms : List Transfer) → IsRightLine with_limits (rule_run R r false) (rule_run R r true) false ms
        → StaysWithin with_limits (rule_run R r right)
    rule_within r false ms h = h.0
    rule_within r true ms h = h.1

    pair_within : (p : PairData) (strict right : Bool) (ms : List Transfer)
        → IsRightLine with_limits (pair_run T.symbols T.rules R p false) (pair_run T.symbols T.rules R p true) strict ms
        → StaysWithin with_limits (pair_run T.symbols T.rules R p right)
    pair_within p strict false ms h = h.0
    pair_within p strict true ms h = h.1

    pub small_holds : IsSmall T R
    small_holds = record {
      of_rules = λ n r right found there.
          let at = place_of T.covered n found in
          let within = slice_get_within T.covered at.0 n at.1 in
          let line = some_at E.of_rules at.0 (omega (arith, within, ready.counted.rule_count)) in
          rule_within r right line.0 (right_rules at.0 n r line.0 at.1 there line.1);
      of_pairs = λ n p right found there.
          let at = place_of T.set n found in
          let within = slice_get_within T.set at.0 n at.1 in
          let line = some_at E.of_pairs at.0 (omega (arith, within, ready.counted.pair_count)) in
          let asked = dropped_or_not E.drop n in
          pair_within p asked.0 right line.0 (right_pairs at.0 n p line.0 asked.0 at.1 there line.1 asked.1);
    }

-- the fault is the first for another list of the same dropped pairs
pub pairs_same : (T : TaskData) (R : ReadingsData) (lines : List (List Transfer)) (ns ms : List ℕ)
    → ((n : ℕ) → Contains ns n ↔ Contains ms n) → (f : CoveringFault) → IsFirstOfPairs T R lines ns f → IsFirstOfPairs T R lines ms f
pairs_same T R lines ns ms same (BadPolynomial f marked) h = absurd h
pairs_same T R lines ns ms same BadLines h = absurd h
pairs_same T R lines ns ms same BadDrop h = absurd h
pairs_same T R lines ns ms same (NotClosed f) h = absurd h
pairs_same T R lines ns ms same (Rule r f) h = absurd h
pairs_same T R lines ns ms same (Pair n f) h =
    first_pair_same (right_lines with_limits T.symbols T.rules R) (wrong_lines with_limits T.symbols T.rules R) T lines ns ms same n f h

-- a cause that is handed on
pub cause_so : {T E : Type 0} (r : Result T (Or E)) (P Q : E → Type 0) → ((e : E) → P e → Q e) → IfBecause r P → IfBecause r Q
cause_so (Ok x) P Q f h = tt
cause_so (Err NoMemory) P Q f h = tt
cause_so (Err (Because e)) P Q f h = f e h

pub ok_so : {T E : Type 0} (r : Result T E) (P Q : Type 0) → (P → Q) → OnOk r P → OnOk r Q
ok_so (Ok x) P Q f h = f h
ok_so (Err e) P Q f h = tt

pub ok_both : {T E : Type 0} (r : Result T E) (P Q R : Type 0) → (P → Q → R) → OnOk r P → OnOk r Q → OnOk r R
ok_both (Ok x) P Q R f h k = f h k
ok_both (Err e) P Q R f h k = tt
