-- The side as an expression means its value, and so does the expression's value.
use Rattle.wh_poly_meaning.proofs.Steps.{side_value}
use Rattle.wh_poly_meaning.proofs.terms.sides_mean_their_polynomials.Goals as goal

pub returns : goal.returns
returns c S M symbols m t a v i n h p f = side_value S symbols i n m h M t a p f v
