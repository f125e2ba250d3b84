-- The measure by a node `poly` that covers all rules.
use Rattle.std.proofs.Common.{◌≡◌, ℕ, List, length, Bool, true, false, Some, slice_get, Contains}
use Rattle.wh_terms.specs.Typing.{Symbols}
use Rattle.wh_terms.specs.Rules.{RewriteRule, AreWellMade}
use Rattle.wh_pairs.specs.PairData.{PairData}
use Rattle.wh_pairs.specs.Drops.{IsDropped}
use Rattle.wh_pairs.specs.Sets.{IsSetOf, IsKept, InSet}
use Rattle.wh_reduction_pairs.specs.TaskData.{TaskData, task_over, numbers_from}
use Rattle.wh_reduction_pairs.specs.ReductionPair.{Evidence}
use Rattle.wh_reduction_pairs.proofs.LinesShow.{rule_shown, pair_shown}
use Rattle.wh_hopoly.specs.Moves.{Transfer}
use Rattle.wh_polycheck.specs.Marks.{HasMarkedSides}
use Rattle.wh_polycheck.specs.Readings.{ReadingsData, AreProper}
use Rattle.wh_polycheck.specs.Covering.{by_moves, IsCovering, HaveTypedSides}
use Rattle.wh_polycheck.proofs.ProperReadings.{proper_readings, sides_of_set}
use Rattle.wh_poly_meaning.specs.PairCovers.{worth_of}
use Rattle.wh_poly_meaning.proofs.PairsEnd.{arguments_worth, pair_worth, strict_pair_worth}
use Rattle.wh_proof_calls.specs.MarkedCalls.{MarkedCall, PairLeads}
use Rattle.wh_law_projection.specs.LongestSequences.{IsBoundedCall}
use Rattle.wh_law_measures.specs.Lexicographic.{IsLess}
use Rattle.wh_law_measures.specs.Measures.{Measure, Measures, IsPolyMeasure}
use Rattle.wh_law_measures.proofs.Lexicographic.{headed_less, behind_less, headed_not_more}

module _ (S : Symbols) (rules : List RewriteRule) (pairs : List PairData) (set covered : List ℕ) (R : ReadingsData)
    (E : Evidence (List Transfer)) (is : IsCovering (task_over S rules pairs set covered) R E)
    (whole : covered ≡ numbers_from 0 (length rules)) (made : AreWellMade S rules) (typed : HaveTypedSides S rules pairs)
    (rest : List ℕ) (kept : IsSetOf (IsKept set E.drop) rest) (child f : Measure S rules) (under : Measures S rules pairs rest child)
    (by_kind : IsPolyMeasure S rules R child f) where
  abbrev task : TaskData
  task = task_over S rules pairs set covered

  proper : AreProper S rules R
  proper = proper_readings task R is.readings is.normal

  sides : (p : PairData) → InSet pairs set p → HasMarkedSides S rules R.marks p
  sides p inside = sides_of_set pairs set R.marks is.readings.marked S rules typed p inside

  -- the line of a pair, which is kept or dropped
  by_line : (n : ℕ) (p : PairData) (ms : List Transfer) (strict : Bool) (c d : MarkedCall) (good : IsBoundedCall S rules c)
      (also : IsBoundedCall S rules d) → Contains set n → slice_get pairs n ≡ Some p → IsDropped E.drop n strict
      → (by_moves S rules R).pair p strict ms → PairLeads S p c d → IsLess (f d also) (f c good)
  by_line n p ms false c d good also inside at stays shown s =
      behind_less (worth_of S rules R d) (worth_of S rules R c) (child d also) (child c good) (by_kind d also) (by_kind c good)
      (pair_worth S rules R proper p c d (record { sides = sides p (n, inside, at); moves = ms; cover = shown }) s)
      (under.each_pair_lowers p c d good also (n, (kept.each n).1 (inside, stays), at) s)
  by_line n p ms true c d good also inside at dropped shown s =
      headed_less (worth_of S rules R d) (worth_of S rules R c) (child d also) (child c good) (by_kind d also) (by_kind c good)
      (strict_pair_worth S rules R proper p c d (sides p (n, inside, at)) (ms, shown) s)

  pub poly_measures : Measures S rules pairs set f
  poly_measures = record {
    no_step_raises = λ c d good also s.
        headed_not_more (worth_of S rules R d) (worth_of S rules R c) (child d also) (child c good) (by_kind d also) (by_kind c good)
        (arguments_worth S rules R proper made (rule_shown (by_moves S rules R) task E is.lines whole) c d good.typed s)
        (under.no_step_raises c d good also s);
    each_pair_lowers = λ p c d good also (n, inside, at) s.
        let (ms, strict, dropped, shown) = pair_shown (by_moves S rules R) task E is.lines n p inside at in
        by_line n p ms strict c d good also inside at dropped shown s;
  }
