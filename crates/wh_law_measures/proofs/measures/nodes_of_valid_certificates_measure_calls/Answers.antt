-- The nodes before one leave its set, and the nodes from it on give the set a measure.
use Rattle.wh_law_measures.proofs.Certificates.{certificate_measures}
use Rattle.wh_law_measures.proofs.measures.nodes_of_valid_certificates_measure_calls.Goals as goal

pub returns : goal.returns
returns k d ps ranks count lines before after node valid made pairs e counted =
    certificate_measures d ps made pairs valid.set valid.nodes before after node valid.proves e counted
