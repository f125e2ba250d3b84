-- By induction on the proof; a node's measure is made of those of what it leaves.
use Rattle.std.proofs.lemmas.List.Elements.{recursion_from_All}
use Rattle.wh_law_measures.specs.NodeMeasures.{IsCounted}
use Rattle.wh_law_measures.proofs.NodeMeasures.{proofs_measure}
use Rattle.wh_law_measures.proofs.measures.nodes_measure_calls.Goals as goal

pub returns : goal.returns
returns k S rules pairs sets nodes made typed patterns proves counted =
    proofs_measure S rules pairs made typed patterns proves (recursion_from_All IsCounted nodes counted)
