use Rattle.std.proofs.Common.{length}
use Rattle.wh_read.proofs.terms.+term_ended.Given as goal

abbrev pub decreases-term_ended : goal.decreases-term_ended
decreases-term_ended l = length l.rule.value.frames.items
