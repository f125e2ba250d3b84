use Rattle.wh_find_subterm.proofs.Models.{models_are_projections}
use Rattle.wh_find_subterm.proofs.laws.models_are_projections.Goals as goal

pub returns : goal.returns
returns c = models_are_projections
