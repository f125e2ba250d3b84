use Rattle.wh_find_subterm.proofs.Only.{formula_is_one}
use Rattle.wh_find_subterm.proofs.laws.formula_is_one.Goals as goal

pub returns : goal.returns
returns c = formula_is_one
