use Rattle.std.proofs.Common.{length, map, string_bytes}
use Rattle.wh_top_words.specs.Kept.{Knows}
use Rattle.wh_top_words.proofs.items.read_items.Given as goal

abbrev pub invariant-loop-rest : goal.invariant-loop-rest
invariant-loop-rest l = Knows (map string_bytes l.words) (map string_bytes l.rest) l.kept

abbrev pub decreases-loop-rest : goal.decreases-loop-rest
decreases-loop-rest l = length l.rest
