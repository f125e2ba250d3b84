-- By recursion on the expression.
use Rattle.wh_hopoly.proofs.PartLaws.{part_is_value, value_of_part}
use Rattle.wh_hopoly.proofs.laws.values_are_those_of_the_parts.Goals as goal

pub returns : goal.returns
returns c symbols scope e w = (λ v. value_of_part symbols scope e w v, λ (k, l, v). part_is_value symbols scope e k w v)
