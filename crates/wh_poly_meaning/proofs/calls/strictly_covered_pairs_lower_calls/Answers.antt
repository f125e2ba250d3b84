-- A unit of the constant is left over.
use Rattle.wh_poly_meaning.proofs.PairsEnd.{strict_pair_worth}
use Rattle.wh_poly_meaning.proofs.calls.strictly_covered_pairs_lower_calls.Goals as goal

pub returns : goal.returns
returns c S rules R p d e proper sides k s = strict_pair_worth S rules R proper p d e sides k s
