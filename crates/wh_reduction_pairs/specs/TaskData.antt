-- What is to be shown of a set of dependency pairs: that certain rules, and the pairs of the set, do not grow. The
-- rules are numbers, so that definitions and check are the same for a node that lists rules and for one that covers
-- all.
use Rattle.std.specs.Prelude.{ℕ, zero, suc, ◌<◌, ◌≡◌, List, [], ◌∷◌, length, All}
use Rattle.wh_terms.specs.Typing.{Symbols}
use Rattle.wh_terms.specs.Rules.{RewriteRule}
use Rattle.wh_pairs.specs.PairData.{PairData, IsIncreasing}

-- a set of the dependency pairs of a system, and the rules that are to be covered, both by their numbers (ours)
pub record TaskData : Type 0 where
  pub symbols : Symbols
  pub rules : List RewriteRule
  pub pairs : List PairData
  pub set : List ℕ
  pub covered : List ℕ

-- k numbers, from n on
abbrev pub numbers_from : ℕ → ℕ → List ℕ
numbers_from n zero = []
numbers_from n (suc k) = n ∷ numbers_from (suc n) k

-- all rules are to be covered, in order
abbrev pub CoversAll : TaskData → Type 0
CoversAll T = T.covered ≡ numbers_from 0 (length T.rules)

-- a set of pairs, with the numbers of the rules that are to be covered, or with those of all rules
abbrev pub task_over : Symbols → List RewriteRule → List PairData → List ℕ → List ℕ → TaskData
task_over S rules pairs set covered = record { symbols = S; rules = rules; pairs = pairs; set = set; covered = covered }

abbrev pub whole_task : Symbols → List RewriteRule → List PairData → List ℕ → TaskData
whole_task S rules pairs set = task_over S rules pairs set (numbers_from 0 (length rules))

-- the set is an increasing list of numbers of pairs, and what is to be covered are rules
pub record IsTask (T : TaskData) : Type 0 where
  pub within : All (λ n. n < length T.pairs) T.set
  pub increasing : IsIncreasing T.set
  pub are_rules : All (λ n. n < length T.rules) T.covered
