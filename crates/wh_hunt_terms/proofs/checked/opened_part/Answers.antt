-- A term that fits and is shut is manageable.
use Rattle.std.proofs.Common.{refl}
use Rattle.wh_terms.specs.Erase.{tm}
use Rattle.wh_step.proofs.RedexLemmas.{manageable_fit}
use Rattle.wh_hunt_terms.proofs.checked.opened_part.Goals as goal

pub opened_at-requires-clause-in_range : goal.opened_at-requires-clause-in_range
opened_at-requires-clause-in_range c = manageable_fit (tm c.args.term.now) (c.if-fits.ensures.0 refl) (c.if-is_shut.ensures refl).0
