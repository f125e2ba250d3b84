use Rattle.std.proofs.Common.{length}
use Rattle.wh_answer_reader.proofs.standing.+all_short.Given as goal

abbrev pub decreases-all_short : goal.decreases-all_short
decreases-all_short l = length l.numbers.now
