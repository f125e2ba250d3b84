use Rattle.wh_find_subterm.proofs.Back.{projections_are_models}
use Rattle.wh_find_subterm.proofs.laws.projections_are_models.Goals as goal

pub returns : goal.returns
returns c = projections_are_models
