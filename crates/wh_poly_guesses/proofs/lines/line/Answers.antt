use Rattle.wh_poly.specs.Erase.{poly}
use Rattle.wh_poly_guesses.proofs.LineLemmas.{few_side, line_found}
use Rattle.wh_poly_guesses.proofs.lines.line.Goals as goal

pub find_moves-requires-clause-few_left : goal.find_moves-requires-clause-few_left
find_moves-requires-clause-few_left c = few_side c.args.left.now c.requires.left

pub find_moves-requires-clause-few_right : goal.find_moves-requires-clause-few_right
find_moves-requires-clause-few_right c = few_side c.args.right.now c.requires.right

pub returns : goal.returns
returns c a b l r = line_found a b (poly c.args.left.now) (poly c.args.right.now) c.find_moves.result l r c.find_moves.ensures
