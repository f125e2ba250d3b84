-- Each name leads back to its number.
use Rattle.wh_system_making.proofs.CanonicalBack.{canonical_means}
use Rattle.wh_system_making.proofs.laws.canonical_terms_stand_for_themselves.Goals as goal

pub returns : goal.returns
returns c d t made typed = canonical_means d made t typed
