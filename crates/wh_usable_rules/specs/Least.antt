-- The least list of rules that is closed for a set.
use Rattle.std.specs.Prelude.{ℕ, List, Option, Some, None, Contains}
use Rattle.wh_system.specs.Systems.{SystemData}
use Rattle.wh_pairs.specs.PairData.{PairData}
use Rattle.wh_reduction_pairs.specs.TaskData.{TaskData, CoversAll, task_over, whole_task}
use Rattle.wh_usable.specs.Closed.{IsUsable}

-- the set, with these rules to be covered
abbrev pub covering : TaskData → List ℕ → TaskData
covering T listed = task_over T.symbols T.rules T.pairs T.set listed

-- the list is closed for the set, it has not all rules, and each list that is closed for it has its rules (ours)
pub record IsLeastClosed (T : TaskData) (listed : List ℕ) : Type 0 where
  pub usable : IsUsable (covering T listed)
  pub fewer : CoversAll (covering T listed) → ⊥
  pub least : (other : List ℕ) → IsUsable (covering T other) → (n : ℕ) → Contains listed n → Contains other n

-- no list is closed for the set but that of all rules (ours)
abbrev pub IsOnlyWhole : TaskData → Type 0
IsOnlyWhole T = (listed : List ℕ) → IsUsable (covering T listed) → CoversAll (covering T listed)

-- the least list of rules that is closed for the set, if one but that of all rules is closed for it (ours)
abbrev pub AreUsableRules : SystemData → List PairData → List ℕ → Option (List ℕ) → Type 0
AreUsableRules d pairs set None = IsOnlyWhole (whole_task d.symbols d.rules pairs set)
AreUsableRules d pairs set (Some listed) = IsLeastClosed (whole_task d.symbols d.rules pairs set) listed
