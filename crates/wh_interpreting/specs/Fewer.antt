-- Lists of rules that lack a rule of the system.
use Rattle.std.specs.Prelude.{ℕ, ◌≢◌, List, length}
use Rattle.wh_system.specs.Systems.{SystemData}
use Rattle.wh_reduction_pairs.specs.TaskData.{numbers_from}

-- the list has not all rules
abbrev pub HasFewer : SystemData → List ℕ → Type 0
HasFewer d listed = listed ≢ numbers_from 0 (length d.rules)
