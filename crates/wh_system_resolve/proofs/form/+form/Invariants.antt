use Rattle.std.proofs.Common.{◌+◌, ◌*◌}
use Rattle.wh_text.specs.Erase.{rtm, rtms}
use Rattle.wh_system_parts.proofs.RawTerms.{weight, weights}
use Rattle.wh_system_resolve.proofs.form.+form.Given as goal

abbrev pub decreases-check_form : goal.decreases-check_form
decreases-check_form l = 2 * weight (rtm l.raw.now)

abbrev pub decreases-check_applied : goal.decreases-check_applied
decreases-check_applied l = 2 * (weight (rtm l.head.now) + weights (rtms l.items.now)) + 1
