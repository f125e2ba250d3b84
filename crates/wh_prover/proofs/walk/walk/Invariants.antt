use Rattle.std.proofs.Common.{map, reverse}
use Rattle.wh_system.specs.SystemView.{system_data}
use Rattle.wh_pairs.specs.Views.{pairs_data}
use Rattle.wh_cert.specs.Said.{said_node}
use Rattle.wh_intern_pairs.specs.Numberings.{IsNumberingSoFar}
use Rattle.wh_prover.specs.Walk.{HasWalked, weight}
use Rattle.wh_prover.proofs.walk.walk.Given as goal

abbrev pub invariant-loop-set : goal.invariant-loop-set
invariant-loop-set l = record {
  walked : HasWalked (system_data l.setting.system.now) (pairs_data l.setting.pairs.now) l.fn.whole (reverse l.stack.items) (map said_node l.nodes);
  numbered : IsNumberingSoFar l.numbered (pairs_data l.setting.pairs.now);
}

abbrev pub decreases-loop-set : goal.decreases-loop-set
decreases-loop-set l = weight (reverse l.stack.items)
