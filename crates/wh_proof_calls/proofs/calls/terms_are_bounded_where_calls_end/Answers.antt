-- Typed terms are computable where symbols are, and computable terms are bounded.
use Rattle.wh_proof_calls.proofs.EndOfCalls.{calls-bounded}
use Rattle.wh_proof_calls.proofs.calls.terms_are_bounded_where_calls_end.Goals as goal

pub returns : goal.returns
returns c d ranks ps made passing pairs end t typed = calls-bounded d made ranks passing ps pairs end t typed.0 typed.1
