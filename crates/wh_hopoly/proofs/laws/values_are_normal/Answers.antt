-- By recursion on the expression.
use Rattle.wh_hopoly.proofs.ValueLaws.{normal_value}
use Rattle.wh_hopoly.proofs.laws.values_are_normal.Goals as goal

pub returns : goal.returns
returns c symbols scope e n t = normal_value symbols n scope e t
