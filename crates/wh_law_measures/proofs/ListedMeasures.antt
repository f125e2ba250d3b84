-- The measure by a node `poly` that covers only listed rules.
use Rattle.std.proofs.Common.{◌≡◌, ℕ, inl, inr, List, ◌∷◌, Bool, true, false, Some, slice_get, Contains, refl}
use Rattle.wh_terms.specs.Typing.{Symbols}
use Rattle.wh_terms.specs.Rules.{RewriteRule, AreWellMade}
use Rattle.wh_pairs.specs.PairData.{PairData}
use Rattle.wh_pairs.specs.Drops.{IsDropped}
use Rattle.wh_pairs.specs.Sets.{IsSetOf, IsKept}
use Rattle.wh_reduction_pairs.specs.TaskData.{TaskData, CoversAll, task_over}
use Rattle.wh_reduction_pairs.specs.ReductionPair.{Evidence}
use Rattle.wh_reduction_pairs.proofs.LinesShow.{pair_shown}
use Rattle.wh_hopoly.specs.Moves.{Transfer}
use Rattle.wh_polycheck.specs.Readings.{ReadingsData}
use Rattle.wh_polycheck.specs.Covering.{by_moves, IsCovering, HaveTypedSides}
use Rattle.wh_usable.specs.Closed.{AreClosedRules, AreClosedPairs, IsClosed}
use Rattle.wh_proof_calls.specs.MarkedCalls.{MarkedCall, PairLeads}
use Rattle.wh_law_projection.specs.LongestSequences.{IsBoundedCall}
use Rattle.wh_law_values.proofs.CallNumbers.{call_number, step_numbers, pair_numbers, strict_pair_numbers}
use Rattle.wh_law_measures.specs.Lexicographic.{IsLess}
use Rattle.wh_law_measures.specs.Measures.{Measure, Measures, IsListedMeasure}
use Rattle.wh_law_measures.proofs.Lexicographic.{headed_less, behind_less, headed_not_more}

-- a list that does not have all rules is closed
pub closed_list : (T : TaskData) → IsClosed T → (CoversAll T → ⊥) → AreClosedRules T × AreClosedPairs T
closed_list T (inl whole) listed = absurd (listed whole)
closed_list T (inr closed) listed = closed

pub listed_measure : (S : Symbols) (rules : List RewriteRule) (covered : List ℕ) (R : ReadingsData) → AreWellMade S rules
    → (child : Measure S rules) → (f : Measure S rules) × IsListedMeasure S rules covered R child f
listed_measure S rules covered R made child = (
  λ c good. (call_number S rules covered R made c good).0 ∷ child c good,
  λ c good. let (n, is) = call_number S rules covered R made c good in (n, is, refl),
)

module _ (S : Symbols) (rules : List RewriteRule) (pairs : List PairData) (set covered : List ℕ) (R : ReadingsData)
    (E : Evidence (List Transfer)) (is : IsCovering (task_over S rules pairs set covered) R E)
    (closed : AreClosedRules (task_over S rules pairs set covered) × AreClosedPairs (task_over S rules pairs set covered))
    (made : AreWellMade S rules) (typed : HaveTypedSides S rules pairs) (rest : List ℕ) (kept : IsSetOf (IsKept set E.drop) rest)
    (child f : Measure S rules) (under : Measures S rules pairs rest child) (by_kind : IsListedMeasure S rules covered R child f) where
  abbrev task : TaskData
  task = task_over S rules pairs set covered

  -- the line of a pair, which is kept or dropped
  by_line : (n : ℕ) (p : PairData) (ms : List Transfer) (strict : Bool) (c d : MarkedCall) (good : IsBoundedCall S rules c)
      (also : IsBoundedCall S rules d) → Contains set n → slice_get pairs n ≡ Some p → IsDropped E.drop n strict
      → (by_moves S rules R).pair p strict ms → PairLeads S p c d → IsLess (f d also) (f c good)
  by_line n p ms false c d good also inside at stays shown s =
      let (k, here, e) = by_kind c good in
      let (j, there, i) = by_kind d also in
      behind_less j k (child d also) (child c good) i e
      (pair_numbers task R E is made typed closed.1 p (n, inside, at) c d k j also s here there ms shown)
      (under.each_pair_lowers p c d good also (n, (kept.each n).1 (inside, stays), at) s)
  by_line n p ms true c d good also inside at dropped shown s =
      let (k, here, e) = by_kind c good in
      let (j, there, i) = by_kind d also in
      headed_less j k (child d also) (child c good) i e
      (strict_pair_numbers task R E is made typed closed.1 p (n, inside, at) c d k j also s here there ms shown)

  pub listed_measures : Measures S rules pairs set f
  listed_measures = record {
    no_step_raises = λ c d good also s.
        let (k, here, e) = by_kind c good in
        let (j, there, i) = by_kind d also in
        headed_not_more j k (child d also) (child c good) i e
        (step_numbers task R E is made closed.0 c d k j s here there) (under.no_step_raises c d good also s);
    each_pair_lowers = λ p c d good also (n, inside, at) s.
        let (ms, strict, dropped, shown) = pair_shown (by_moves S rules R) task E is.lines n p inside at in
        by_line n p ms strict c d good also inside at dropped shown s;
  }
