use Rattle.wh_no.proofs.Claims.{claim_or_fault}
use Rattle.wh_no.proofs.laws.claims_are_valid_or_have_a_first_fault.Goals as goal

pub returns : goal.returns
returns c d raw steps at lines made = claim_or_fault d raw steps at lines made.rules
