use Rattle.std.proofs.Common.{map, drop, reverse}
use Rattle.wh_system.specs.SystemView.{system_data}
use Rattle.wh_pairs.specs.Views.{pairs_data}
use Rattle.wh_cert.specs.Said.{said_node}
use Rattle.wh_intern_pairs.specs.Numberings.{IsNumberingSoFar}
use Rattle.wh_checker.specs.Walk.{HasCome}
use Rattle.wh_checker.proofs.walk.check_nodes.Given as goal

abbrev pub invariant-loop-index : goal.invariant-loop-index
invariant-loop-index l =
    IsNumberingSoFar l.numbered (pairs_data l.pairs)
    × HasCome (system_data l.system) (pairs_data l.pairs) l.fn.whole (map said_node l.nodes) l.index (reverse l.stack.items)
    (map said_node (drop l.index l.nodes))
