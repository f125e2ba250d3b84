use Rattle.std.proofs.Common.{take, map}
use Rattle.wh_terms.specs.Erase.{rewrite_rule}
use Rattle.wh_system.specs.SystemView.{system_data}
use Rattle.wh_pairs.specs.Candidates.{candidate}
use Rattle.wh_pairs.specs.Survivors.{Survive}
use Rattle.wh_pairs.specs.Views.{pairs_data}
use Rattle.wh_pairs_calls.specs.Views.{call_data}
use Rattle.wh_pairs_making.proofs.survivors.pairs_of_rule.Given as goal

abbrev pub invariant-loop-call : goal.invariant-loop-call
invariant-loop-call l =
    Survive (map (λ c. candidate (system_data l.system).symbols l.number (rewrite_rule l.rule) (call_data c)) (take l.call-index l.call-items)) (pairs_data l.kept.items)
