-- Steps keep bounds, and the number is the least one.
use Rattle.wh_law_values.proofs.CallNumbers.{step_numbers}
use Rattle.wh_law_values.proofs.values.steps_do_not_raise_numbers.Goals as goal

pub returns : goal.returns
returns k T R E c d n m made is closed s here there = step_numbers T R E is made closed c d n m s here there
