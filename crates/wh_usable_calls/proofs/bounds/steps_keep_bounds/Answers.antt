-- By the place of the step: in an argument, or at the root by a listed rule.
use Rattle.wh_usable_calls.proofs.UsableCovers.{covered_step}
use Rattle.wh_usable_calls.proofs.bounds.steps_keep_bounds.Goals as goal

pub returns : goal.returns
returns c T R E t u n made closed is b step = covered_step T R E is made closed t u n b step
