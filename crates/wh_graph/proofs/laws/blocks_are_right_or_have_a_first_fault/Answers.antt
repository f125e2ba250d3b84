use Rattle.wh_graph.specs.May.{Follows}
use Rattle.wh_graph.proofs.ClashesDecided.{follows_decided}
use Rattle.wh_graph.proofs.BlockFaults.{blocks_or_fault}
use Rattle.wh_graph.proofs.laws.blocks_are_right_or_have_a_first_fault.Goals as goal

pub returns : goal.returns
returns c rules ps set blocks = blocks_or_fault (Follows rules ps) (follows_decided rules ps) set blocks
