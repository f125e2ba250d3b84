-- All sets are proved.
use Rattle.std.proofs.Common.{refl}
use Rattle.wh_system.specs.SystemView.{system_data}
use Rattle.wh_pairs.specs.Views.{pairs_data}
use Rattle.wh_checker_walk.proofs.NodesOn.{nodes_whole}
use Rattle.wh_checker_walk.proofs.nodes.Nodes.accepted.Goals as goal

pub returns : goal.returns
returns c =
    nodes_whole (system_data c.args.system.now) (pairs_data c.args.pairs.now) c.args.self.now
    (record { nodes = c.args.self.now.next }) c.is_well_made.ensures c.requires refl
