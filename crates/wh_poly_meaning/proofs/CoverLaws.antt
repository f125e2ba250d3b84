-- What the conditions of a node of interpretations say of a set of pairs: its calls end where those by the pairs that
-- are kept do.
use Rattle.std.proofs.Common.{ℕ, List, refl}
use Rattle.wh_terms.specs.Rules.{AreWellMade}
use Rattle.wh_step.specs.Step.{Step}
use Rattle.wh_pairs.specs.PairData.{PairData}
use Rattle.wh_pairs.specs.Sets.{IsSetOf, IsKept, InSet}
use Rattle.wh_proof_calls.specs.MarkedCalls.{MarkedCall, CallsEnd}
use Rattle.wh_proof_calls.specs.CallOrders.{by_numbers, by_function}
use Rattle.wh_proof_calls.specs.ShownCalls.{IsShownOfCalls}
use Rattle.wh_proof_calls.proofs.Measured.{function_no_more, function_less}
use Rattle.wh_proof_calls.proofs.ShownMeasures.{ends_shown}
use Rattle.wh_reduction_pairs.specs.TaskData.{TaskData, CoversAll}
use Rattle.wh_reduction_pairs.specs.ReductionPair.{Evidence}
use Rattle.wh_hopoly.specs.Moves.{Transfer}
use Rattle.wh_polycheck.specs.Marks.{HasMarkedSides}
use Rattle.wh_polycheck.specs.Readings.{ReadingsData, AreProper}
use Rattle.wh_polycheck.specs.Covering.{by_moves, IsCovering, HaveTypedSides}
use Rattle.wh_polycheck.proofs.ProperReadings.{proper_readings, sides_of_set}
use Rattle.wh_poly_meaning.specs.PairCovers.{worth_of}
use Rattle.wh_poly_meaning.proofs.Measures.{numbers_end, numbers_together}
use Rattle.wh_poly_meaning.proofs.PairsEnd.{arguments_worth, pair_worth, strict_pair_worth}

module _ (T : TaskData) (R : ReadingsData) (E : Evidence (List Transfer)) (is : IsCovering T R E) where
  proper : AreProper T.symbols T.rules R
  proper = proper_readings T R is.readings is.normal

  sides : HaveTypedSides T.symbols T.rules T.pairs → (p : PairData) → InSet T.pairs T.set p → HasMarkedSides T.symbols T.rules R.marks p
  sides typed p inside = sides_of_set T.pairs T.set R.marks is.readings.marked T.symbols T.rules typed p inside

  -- what the moves show holds of what calls are worth
  shown_of_calls : AreWellMade T.symbols T.rules → HaveTypedSides T.symbols T.rules T.pairs
      → IsShownOfCalls (by_moves T.symbols T.rules R) T (Step T.rules) by_numbers (by_function (worth_of T.symbols T.rules R))
  shown_of_calls made typed = record {
    rules = λ covered c d a from at s.
        function_no_more by_numbers worth a c d at (arguments_worth T.symbols T.rules R proper made covered c d from s);
    pairs = λ p ms c d a inside shown from at s. function_no_more by_numbers worth a c d at
        (pair_worth T.symbols T.rules R proper p c d (record { sides = sides typed p inside; moves = ms; cover = shown }) s.leads);
    strict_pairs = λ p ms c d a inside shown from at s. function_less by_numbers worth a c d at
        (strict_pair_worth T.symbols T.rules R proper p c d (sides typed p inside) (ms, shown) s.leads);
  }
    where
      worth : MarkedCall → ℕ
      worth = worth_of T.symbols T.rules R

  -- where the calls by the pairs that are not dropped end, the calls of the set do
  pub covering_ends : AreWellMade T.symbols T.rules → HaveTypedSides T.symbols T.rules T.pairs → CoversAll T → (rest : List ℕ)
      → IsSetOf (IsKept T.set E.drop) rest → CallsEnd T.symbols T.rules (Step T.rules) (InSet T.pairs rest)
      → CallsEnd T.symbols T.rules (Step T.rules) (InSet T.pairs T.set)
  covering_ends made typed whole rest kept =
      let worth = worth_of T.symbols T.rules R in
      ends_shown (by_moves T.symbols T.rules R) T E is.lines whole rest kept by_numbers (by_function worth) (shown_of_calls made typed)
      numbers_together (λ c d to s. (worth d, refl, numbers_end (worth d)))
