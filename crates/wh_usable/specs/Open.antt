-- The first rule or pair for which a list of rules is not closed.
use Rattle.std.specs.Prelude.{ℕ, ◌<◌, ◌≡◌, List, Some, slice_get}
use Rattle.wh_reduction_pairs.specs.TaskData.{TaskData, CoversAll}
use Rattle.wh_usable.specs.Closed.{IsClosedRule, IsClosedPair, AreClosedRules}
use Rattle.wh_usable.specs.declared.closed.NotClosed.{NotClosed}
use Rattle.wh_usable.specs.declared.closed.NotClosed.TheVariants.{Rule, Pair}

-- the number n of the list is that of an element that is not Q, and the numbers before it are those of elements that
-- are
pub record IsFirstNot {A : Type 0} (Q : A → Type 0) (xs : List A) (numbers : List ℕ) (n : ℕ) : Type 0 where
  pub place : ℕ
  pub there : slice_get numbers place ≡ Some n
  pub fails : (x : A) × (slice_get xs n ≡ Some x) × (Q x → ⊥)
  pub before : (k m : ℕ) (x : A) → k < place → slice_get numbers k ≡ Some m → slice_get xs m ≡ Some x → Q x

-- the first listed rule that is not closed, and the first pair of the set
abbrev pub IsFirstOpenRule : TaskData → ℕ → Type 0
IsFirstOpenRule T = IsFirstNot (IsClosedRule T.symbols T.rules T.covered) T.rules T.covered

abbrev pub IsFirstOpenPair : TaskData → ℕ → Type 0
IsFirstOpenPair T = IsFirstNot (IsClosedPair T.symbols T.rules T.covered) T.pairs T.set

-- where some rule is not listed: the first listed rule that is not closed, or else the first pair (ours)
abbrev pub IsFirstOpen : TaskData → NotClosed → Type 0
IsFirstOpen T (Rule n) = (CoversAll T → ⊥) × IsFirstOpenRule T n
IsFirstOpen T (Pair n) = (CoversAll T → ⊥) × AreClosedRules T × IsFirstOpenPair T n
