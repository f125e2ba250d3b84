use Rattle.wh_subterm.proofs.Projections.{projection_or_fault}
use Rattle.wh_subterm.proofs.laws.choices_are_a_projection_or_have_a_first_fault.Goals as goal

pub returns : goal.returns
returns c rules ps set args drop = projection_or_fault rules ps set args drop
