use Rattle.std.proofs.Common.{length}
use Rattle.wh_answer_reader.proofs.standing.+all_words.Given as goal

abbrev pub decreases-all_words : goal.decreases-all_words
decreases-all_words l = length l.names.now
