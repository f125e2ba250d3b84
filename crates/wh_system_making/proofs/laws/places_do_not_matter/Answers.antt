-- Parts pass the tests and say a system as the parts without offsets do.
use Rattle.wh_system_making.proofs.UnplacedParts.{places_pass, places_say}
use Rattle.wh_system_making.proofs.laws.places_do_not_matter.Goals as goal

pub returns-clause-passed : goal.returns-clause-passed
returns-clause-passed c p q same none = places_pass p q same none

pub returns-clause-said : goal.returns-clause-said
returns-clause-said c p q d same says = places_say p q d same says
