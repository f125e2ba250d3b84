-- Each part of it is shown of the two rules of a function, and of its symbol.
use Rattle.wh_gen.proofs.FamilyMade.{family_made}
use Rattle.wh_gen.proofs.laws.generated_systems_are_well_made.Goals as goal

pub returns : goal.returns
returns c n some few = family_made n few
