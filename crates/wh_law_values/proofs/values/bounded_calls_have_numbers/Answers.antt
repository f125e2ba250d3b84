-- Their arguments have values, where they are of sorts.
use Rattle.wh_law_values.proofs.CallNumbers.{call_number}
use Rattle.wh_law_values.proofs.values.bounded_calls_have_numbers.Goals as goal

pub returns : goal.returns
returns k S rules listed R c made good = call_number S rules listed R made c good
