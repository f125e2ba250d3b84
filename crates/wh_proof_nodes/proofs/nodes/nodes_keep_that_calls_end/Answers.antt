-- By induction on the proof; a node's set is proved from the sets that it leaves.
use Rattle.wh_proof_nodes.proofs.NodeLaws.{proofs_keep}
use Rattle.wh_proof_nodes.proofs.nodes.nodes_keep_that_calls_end.Goals as goal

pub returns : goal.returns
returns c S rules pairs sets nodes set made sorts typed patterns proves inside =
    proofs_keep S rules pairs made sorts typed patterns proves set inside
