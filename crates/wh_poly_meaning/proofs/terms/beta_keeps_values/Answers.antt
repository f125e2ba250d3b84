-- Substitution in a value, for the nearest variable.
use Rattle.wh_poly_meaning.proofs.TermValues.{value_beta}
use Rattle.wh_poly_meaning.proofs.terms.beta_keeps_values.Goals as goal

pub returns : goal.returns
returns c S m scope t u a b v p q = value_beta S _ m v p q
