-- By induction on the value, case by case as for bounds.
use Rattle.wh_law_values.proofs.LeastBounds.{value_bounds, value_least}
use Rattle.wh_law_values.proofs.values.values_are_least_bounds.Goals as goal

pub returns : goal.returns
returns k S rules listed symbols t n is =
    (value_bounds S rules listed symbols is, λ m b. value_least S rules listed symbols m is b)
