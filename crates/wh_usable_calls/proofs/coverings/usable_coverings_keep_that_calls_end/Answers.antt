-- By cases: all rules are to be covered, or those of a list in which each is first-order.
use Rattle.wh_usable_calls.proofs.UsableCovers.{usable_ends}
use Rattle.wh_usable_calls.proofs.coverings.usable_coverings_keep_that_calls_end.Goals as goal

pub returns : goal.returns
returns c T R E rest made typed usable is kept smaller = usable_ends T R E is made typed usable rest kept smaller
