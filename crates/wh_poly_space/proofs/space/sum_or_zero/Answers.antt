use Rattle.wh_poly.specs.Erase.{poly}
use Rattle.wh_poly_space.proofs.BuildLemmas.{empty_is_zero}
use Rattle.wh_poly_space.proofs.space.sum_or_zero.Goals as goal

pub returns-else-asked : goal.returns-else-asked
returns-else-asked c = empty_is_zero c.new.result c.args.asked (poly c.args.sum.now) c.if-asked.false c.new.ensures
