-- Arrivals: terms that a search for loops reached, each with the rule that it started from.
use Rattle.std.specs.Prelude.{ℕ, ◌≢◌}
use Rattle.wh_terms.specs.Tree.{Tm}
use Rattle.wh_terms.specs.Erase.{tm}
use Rattle.wh_system.specs.Systems.{SystemData}
use Rattle.wh_loop_starts.specs.Starts.{IsStart}
use Rattle.wh_loop_starts.specs.Space.{HoldsInstanceOf}
use Rattle.wh_loop_reached.specs.declared.visit.Visit.{Visit}

-- a term that was reached, and the number of the rule whose start it was reached from
pub record Arrival : Type 0 where
  pub start : ℕ
  pub term : Tm

abbrev pub arrival : Visit → Arrival
arrival v = record { start = v.start; term = tm v.term }

-- the term of the arrival is the start itself, or holds no instance of it
abbrev pub HoldsNoInstance : SystemData → Arrival → Type 0
HoldsNoInstance d a = (s : Tm) → IsStart d.rules a.start s → a.term ≢ s → HoldsInstanceOf d.symbols s a.term → ⊥
