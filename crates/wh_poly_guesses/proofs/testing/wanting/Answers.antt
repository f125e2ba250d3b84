use Rattle.wh_poly_guesses.proofs.LineLemmas.{few_side}
use Rattle.wh_poly_guesses.proofs.testing.wanting.Goals as goal

pub deficit-requires-clause-few_left : goal.deficit-requires-clause-few_left
deficit-requires-clause-few_left c = few_side c.args.left.now c.requires.left

pub deficit-requires-clause-few_right : goal.deficit-requires-clause-few_right
deficit-requires-clause-few_right c = few_side c.args.right.now c.requires.right
