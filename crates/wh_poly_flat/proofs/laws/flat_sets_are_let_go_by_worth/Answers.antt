use Rattle.wh_poly_flat.proofs.Law.{lets_go_by, lets_go_if}
use Rattle.wh_poly_flat.proofs.laws.flat_sets_are_let_go_by_worth.Goals as goal

pub returns : goal.returns
returns c d pairs set covered lists R made typed flat readings has =
    (lets_go_by d pairs set covered lists R made typed flat readings has, lets_go_if d pairs set covered lists R made typed flat readings has)
