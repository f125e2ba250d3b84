-- An induction on the measure, and within it one on the calls by the kept pairs.
use Rattle.wh_proof_calls.proofs.Measured.{ends_measured}
use Rattle.wh_proof_calls.proofs.calls.measured_calls_end.Goals as goal

pub returns : goal.returns
returns c S rules pairs set kept measure are end = ends_measured are end
