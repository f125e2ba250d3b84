-- When what lines show of rules and of pairs holds of the measures of calls.
use Rattle.std.specs.Prelude.{true, false, Contains}
use Rattle.wh_terms.specs.Tree.{Tm}
use Rattle.wh_terms.specs.Rules.{RewriteRule}
use Rattle.wh_pairs.specs.PairData.{PairData}
use Rattle.wh_pairs.specs.Sets.{InSet}
use Rattle.wh_reduction_pairs.specs.TaskData.{TaskData}
use Rattle.wh_reduction_pairs.specs.ReductionPair.{Showing}
use Rattle.wh_proof_calls.specs.MarkedCalls.{MarkedCall, IsTypedCall, PairStep, ArgumentsStep}
use Rattle.wh_proof_calls.specs.CallOrders.{Orders, HasNoMore, HasLess}

-- where lines show of all rules that they do not grow, steps in arguments make no measure more; where one shows it of a
-- pair, the pair makes none more, and where it shows that the pair shrinks, it makes each less (Kop 2012, the reduction
-- pair processor; the form is ours)
pub record IsShownOfCalls {Line A : Type 0} (shows : Showing Line) (T : TaskData) (R : Tm → Tm → Type 0) (order : Orders A)
    (measures : MarkedCall → A → Type 0) : Type 0 where
  pub rules : ((r : RewriteRule) → Contains T.rules r → (l : Line) × shows.rule r l) → (c d : MarkedCall) (a : A)
      → IsTypedCall T.symbols T.rules c → measures c a → ArgumentsStep R c d → HasNoMore order measures a d
  pub pairs : (p : PairData) (l : Line) (c d : MarkedCall) (a : A) → InSet T.pairs T.set p → shows.pair p false l
      → IsTypedCall T.symbols T.rules c → measures c a → PairStep T.symbols R p c d → HasNoMore order measures a d
  pub strict_pairs : (p : PairData) (l : Line) (c d : MarkedCall) (a : A) → InSet T.pairs T.set p → shows.pair p true l
      → IsTypedCall T.symbols T.rules c → measures c a → PairStep T.symbols R p c d → HasLess order measures a d
