-- The calls on the two sides are worth what the polynomials of the sides mean.
use Rattle.wh_poly_meaning.proofs.PairsEnd.{pair_worth}
use Rattle.wh_poly_meaning.proofs.calls.covered_pairs_do_not_raise_calls.Goals as goal

pub returns : goal.returns
returns c S rules R p d e proper k s = pair_worth S rules R proper p d e k s
