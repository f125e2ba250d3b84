-- Evaluations in which no value exceeds the limits of a program.
use Rattle.std.specs.Prelude.{ℕ, ◌≡◌, Some, Bool, Contains, slice_get}
use Rattle.wh_terms.specs.Rules.{RewriteRule}
use Rattle.wh_pairs.specs.PairData.{PairData}
use Rattle.wh_reduction_pairs.specs.TaskData.{TaskData}
use Rattle.wh_poly.specs.Polynomials.{Polynomial}
use Rattle.wh_hopoly.specs.Evaluation.{Run}
use Rattle.wh_poly.specs.Limits.{Exceeds}
use Rattle.wh_polycheck.specs.Readings.{ReadingsData}
use Rattle.wh_polycheck.specs.Covering.{rule_run, pair_run}

-- whether numbers may be as large as they like, or values that exceed the limits of a program are a fault of their own
-- (ours)
pub data Limits : Type 0 where
  without_limits with_limits : Limits

-- with limits, no value on the way exceeds one; without, nothing is asked
abbrev pub StaysWithin : Limits → Run Polynomial → Type 0
StaysWithin without_limits run = Unit {0}
StaysWithin with_limits run = (w : Polynomial) → Contains run.values w → Exceeds w → ⊥

-- the sides of the rules that are to be covered, and of the pairs of the set, are evaluated without a value that
-- exceeds a limit
pub record IsSmall (T : TaskData) (R : ReadingsData) : Type 0 where
  pub of_rules : (n : ℕ) (r : RewriteRule) (right : Bool) → Contains T.covered n → slice_get T.rules n ≡ Some r
      → StaysWithin with_limits (rule_run R r right)
  pub of_pairs : (n : ℕ) (p : PairData) (right : Bool) → Contains T.set n → slice_get T.pairs n ≡ Some p
      → StaysWithin with_limits (pair_run T.symbols T.rules R p right)
