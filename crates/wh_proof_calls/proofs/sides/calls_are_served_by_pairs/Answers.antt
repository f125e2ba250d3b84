-- By the pair that subsumes the call's candidate.
use Rattle.wh_proof_calls.proofs.Served.{call_led}
use Rattle.wh_proof_calls.proofs.sides.calls_are_served_by_pairs.Goals as goal

pub returns : goal.returns
returns l d pairs r c from to made kept listed called led = call_led d pairs r c from to made kept listed called led
