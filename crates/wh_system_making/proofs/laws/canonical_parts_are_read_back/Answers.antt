-- The canonical parts have no places.
use Rattle.std.proofs.Common.{sym, ◌∙◌}
use Rattle.wh_system_making.specs.CanonicalParts.{canonical}
use Rattle.wh_system_making.proofs.UnplacedParts.{places_pass, places_say}
use Rattle.wh_system_making.proofs.CanonicalLaw.{canonical_passes, canonical_says}
use Rattle.wh_system_making.proofs.CanonicalPlaces.{canonical_unplaced}
use Rattle.wh_system_making.proofs.laws.canonical_parts_are_read_back.Goals as goal

pub returns-clause-passed : goal.returns-clause-passed
returns-clause-passed c p d made same = places_pass (canonical d) p (canonical_unplaced d ∙ sym same) (canonical_passes d made)

pub returns-clause-said : goal.returns-clause-said
returns-clause-said c p d made same = places_say (canonical d) p d (canonical_unplaced d ∙ sym same) (canonical_says d made)
