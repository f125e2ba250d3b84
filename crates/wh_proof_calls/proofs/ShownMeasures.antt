-- The law of reduction pairs for lines: where they show what they are to, and that holds of the measures of calls,
-- calls of the set end where those by the pairs that are not dropped do.
use Rattle.std.proofs.Common.{◌≡◌, ◌⊎◌, ℕ, inl, inr, List, Bool, true, false, Some, slice_get, Contains}
use Rattle.wh_terms.specs.Tree.{Tm}
use Rattle.wh_step_laws.specs.Ends.{Ends}
use Rattle.wh_pairs.specs.PairData.{PairData}
use Rattle.wh_pairs.specs.Drops.{IsDropped}
use Rattle.wh_pairs.specs.Sets.{IsSetOf, IsKept, InSet}
use Rattle.wh_reduction_pairs.specs.TaskData.{TaskData, CoversAll}
use Rattle.wh_reduction_pairs.specs.ReductionPair.{Evidence, Showing, IsReductionPair}
use Rattle.wh_reduction_pairs.proofs.LinesShow.{rule_shown, pair_shown}
use Rattle.wh_proof_calls.specs.MarkedCalls.{MarkedCall, IsTypedCall, PairStep, SomePairStep, CallsEnd}
use Rattle.wh_proof_calls.specs.CallOrders.{Orders, HasNoMore, HasLess}
use Rattle.wh_proof_calls.specs.ShownCalls.{IsShownOfCalls}
use Rattle.wh_proof_calls.proofs.Measured.{ends_measured}

module _ {Line A : Type 0} (shows : Showing Line) (T : TaskData) (E : Evidence Line) (is : IsReductionPair shows T E) (whole : CoversAll T)
    (rest : List ℕ) (kept : IsSetOf (IsKept T.set E.drop) rest) {R : Tm → Tm → Type 0} (order : Orders A)
    (measures : MarkedCall → A → Type 0) (of_calls : IsShownOfCalls shows T R order measures) where
  -- the line of a pair of the set, whose pair is dropped or kept
  by_line : (n : ℕ) (p : PairData) (l : Line) (strict : Bool) (c d : MarkedCall) (a : A) → Contains T.set n → slice_get T.pairs n ≡ Some p
      → IsDropped E.drop n strict → shows.pair p strict l → IsTypedCall T.symbols T.rules c → measures c a → PairStep T.symbols R p c d
      → ((InSet T.pairs rest p × HasNoMore order measures a d) ⊎ HasLess order measures a d)
  by_line n p l false c d a inside at stays shown typed has s =
      inl ((n, (kept.each n).1 (inside, stays), at), of_calls.pairs p l c d a (n, inside, at) shown typed has s)
  by_line n p l true c d a inside at dropped shown typed has s = inr (of_calls.strict_pairs p l c d a (n, inside, at) shown typed has s)

  pub ends_shown : ((a b c : A) → order.not_more a b → order.less b c → order.less a c)
      → ((c d : MarkedCall) → IsTypedCall T.symbols T.rules d → SomePairStep T.symbols R (InSet T.pairs T.set) c d
      → (a : A) × measures d a × Ends order.less a)
      → CallsEnd T.symbols T.rules R (InSet T.pairs rest) → CallsEnd T.symbols T.rules R (InSet T.pairs T.set)
  ends_shown together measured = ends_measured (record {
    together = together;
    measured = measured;
    arguments = of_calls.rules (rule_shown shows T E is whole);
    pairs = λ p c d a (n, inside, at) typed has s. let (l, strict, dropped, shown) = pair_shown shows T E is n p inside at in
        by_line n p l strict c d a inside at dropped shown typed has s;
  })
