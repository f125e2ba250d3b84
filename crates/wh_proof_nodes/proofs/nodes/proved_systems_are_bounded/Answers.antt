-- The nodes leave no endless sequence of calls, and terms are bounded where calls end.
use Rattle.wh_proof_nodes.proofs.SystemLaws.{proved_systems_end}
use Rattle.wh_proof_nodes.proofs.nodes.proved_systems_are_bounded.Goals as goal

pub returns : goal.returns
returns c d ranks ps all nodes made passing pairs whole proves t typed = proved_systems_end d made ranks passing ps pairs all nodes proves whole t typed
