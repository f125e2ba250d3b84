-- By recursion on the expression.
use Rattle.wh_poly_meaning.proofs.Mean.{den_value}
use Rattle.wh_poly_meaning.proofs.values.values_mean_the_same.Goals as goal

pub returns : goal.returns
returns c symbols scope e v n t = den_value symbols n scope e v t
