-- Each test is passed by what the canonical parts are made from.
use Rattle.wh_system_making.proofs.CanonicalLaw.{canonical_passes, canonical_says}
use Rattle.wh_system_making.proofs.laws.canonical_parts_say_the_system.Goals as goal

pub returns-clause-passed : goal.returns-clause-passed
returns-clause-passed c d made = canonical_passes d made

pub returns-clause-said : goal.returns-clause-said
returns-clause-said c d made = canonical_says d made
