-- When lines show that the pairs of a list may be dropped from a set: no rule that is to be covered and no pair of the
-- set grows, and these pairs shrink. What a line is made of, and what it shows, are parameters.
use Rattle.std.specs.Prelude.{ℕ, ◌≡◌, ◌≢◌, List, [], Some, length, All, Bool, Contains, slice_get}
use Rattle.wh_terms.specs.Rules.{RewriteRule}
use Rattle.wh_pairs.specs.PairData.{PairData}
use Rattle.wh_pairs.specs.Drops.{IsDropped}
use Rattle.wh_reduction_pairs.specs.TaskData.{TaskData}

-- a line for each rule that is to be covered, one for each pair of the set, and the pairs that are dropped (ours)
pub record Evidence (Line : Type 0) : Type 0 where
  pub of_rules : List Line
  pub of_pairs : List Line
  pub drop : List ℕ

-- what lines show: that a rule does not grow; that a pair does not, or, where that is asked, that it shrinks (Kop 2012)
pub record Showing (Line : Type 0) : Type 1 where
  pub rule : RewriteRule → Line → Type 0
  pub pair : PairData → Bool → Line → Type 0

module _ {Line : Type 0} (shows : Showing Line) (T : TaskData) where
  -- the line at this place shows what it is for: that its rule does not grow
  abbrev pub IsRightRule : List Line → ℕ → Type 0
  IsRightRule lines i = (n : ℕ) (r : RewriteRule) (l : Line) → slice_get T.covered i ≡ Some n → slice_get T.rules n ≡ Some r
      → slice_get lines i ≡ Some l
      → shows.rule r l

  -- the line at this place shows what it is for: that its pair does not grow, and that it shrinks where it is dropped
  abbrev pub IsRightPair : List Line → List ℕ → ℕ → Type 0
  IsRightPair lines drop i = (n : ℕ) (p : PairData) (l : Line) (strict : Bool) → slice_get T.set i ≡ Some n
      → slice_get T.pairs n ≡ Some p
      → slice_get lines i ≡ Some l
      → IsDropped drop n strict
      → shows.pair p strict l

  -- the conditions on the lines of a reduction pair (Kop 2012, the reduction pair processor; the form is ours)
  pub record IsReductionPair (E : Evidence Line) : Type 0 where
    -- there is a line for each rule that is to be covered, and for each pair of the set
    pub rule_count : length E.of_rules ≡ length T.covered
    pub pair_count : length E.of_pairs ≡ length T.set
    -- some pair is dropped, none twice, and what is dropped is of the set
    pub some_dropped : E.drop ≢ []
    pub once : (i j n : ℕ) → slice_get E.drop i ≡ Some n → slice_get E.drop j ≡ Some n → i ≡ j
    pub within : All (Contains T.set) E.drop
    -- no rule and no pair grows, and each dropped pair shrinks
    pub rules : (i : ℕ) → IsRightRule E.of_rules i
    pub pairs : (i : ℕ) → IsRightPair E.of_pairs E.drop i
