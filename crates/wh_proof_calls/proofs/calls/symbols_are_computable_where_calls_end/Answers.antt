-- Symbols without rules have no steps at the root; the others are computable by induction on calls.
use Rattle.wh_proof_calls.proofs.EndOfCalls.{calls-symbols}
use Rattle.wh_proof_calls.proofs.calls.symbols_are_computable_where_calls_end.Goals as goal

pub returns : goal.returns
returns c d ranks ps made passing pairs end = calls-symbols d made ranks passing ps pairs end
