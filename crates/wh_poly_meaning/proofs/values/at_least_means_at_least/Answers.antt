-- By recursion on the monomials.
use Rattle.wh_poly_meaning.proofs.AtLeast.{at_least_den}
use Rattle.wh_poly_meaning.proofs.values.at_least_means_at_least.Goals as goal

pub returns : goal.returns
returns c scope v a b s t h = at_least_den scope v a b s t h
