use Rattle.wh_graph.proofs.ClashesDecided.{may_decided}
use Rattle.wh_graph.proofs.laws.may_is_decided.Goals as goal

pub returns : goal.returns
returns c rules a b = may_decided rules a b
