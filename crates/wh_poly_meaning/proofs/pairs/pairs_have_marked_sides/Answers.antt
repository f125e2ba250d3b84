-- A pair is the candidate of a call of a rule.
use Rattle.wh_poly_meaning.proofs.PairSides.{pair_sides}
use Rattle.wh_poly_meaning.proofs.pairs.pairs_have_marked_sides.Goals as goal

pub returns : goal.returns
returns c d pairs marks p made are at l m = pair_sides d made pairs are marks p at l m
