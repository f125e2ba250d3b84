use Rattle.std.proofs.Common.{◌≡◌, ℕ, ◌<◌, map, Some, slice_get}
use Rattle.wh_terms.specs.Tree.{Tm}
use Rattle.wh_terms.specs.Erase.{tm}
use Rattle.wh_system.specs.SystemView.{system_data}
use Rattle.wh_graph.specs.Clash.{Clash}
use Rattle.wh_graph.proofs.follow.some_clash.Given as goal

abbrev pub invariant-loop-i : goal.invariant-loop-i
invariant-loop-i l = (k : ℕ) (q p : Tm) → k < l.i → slice_get (map tm l.terms) k ≡ Some q → slice_get (map tm l.patterns) k ≡ Some p
    → Clash (system_data l.system).rules q p → ⊥
