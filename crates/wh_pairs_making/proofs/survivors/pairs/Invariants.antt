use Rattle.std.proofs.Common.{take, length, ◌≤◌}
use Rattle.wh_terms.specs.Erase.{rewrite_rules}
use Rattle.wh_system.specs.SystemView.{system_data}
use Rattle.wh_pairs.specs.Candidates.{candidates_from}
use Rattle.wh_pairs.specs.Subsumption.{ArePairs}
use Rattle.wh_pairs.specs.Views.{pairs_data}
use Rattle.wh_pairs_making.proofs.survivors.pairs.Given as goal

abbrev pub invariant-loop-i : goal.invariant-loop-i
invariant-loop-i l =
    let s = system_data l.system in
    ArePairs (candidates_from s.symbols s.rules 0 (rewrite_rules (take l.i l.rule-items))) (pairs_data l.list) × (length l.list ≤ 4096)
