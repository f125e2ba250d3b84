-- Each part of it is what a group of tests has found.
use Rattle.wh_system_making.proofs.SystemMade.{system_made}
use Rattle.wh_system_making.proofs.laws.systems_are_well_made.Goals as goal

pub returns : goal.returns
returns c p s proper none says = system_made p s proper none says
