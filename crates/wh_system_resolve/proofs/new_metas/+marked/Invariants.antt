use Rattle.std.proofs.Common.{◌+◌, ◌*◌}
use Rattle.wh_text.specs.Erase.{rtm, rtms}
use Rattle.wh_system_parts.proofs.RawTerms.{weight, weights}
use Rattle.wh_system_resolve.proofs.new_metas.+marked.Given as goal

abbrev pub decreases-check_marked : goal.decreases-check_marked
decreases-check_marked l = 2 * weight (rtm l.raw.now)

abbrev pub decreases-check_applied_marked : goal.decreases-check_applied_marked
decreases-check_applied_marked l = 2 * (weight (rtm l.head.now) + weights (rtms l.items.now)) + 1

abbrev pub decreases-check_each_marked : goal.decreases-check_each_marked
decreases-check_each_marked l = 2 * weights (rtms l.items.now) + 1
