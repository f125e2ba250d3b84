use Rattle.std.proofs.Common.{◌≡◌, ◌++◌, drop, map}
use Rattle.std.specs.Fmt.{decimal}
use Rattle.wh_answer.specs.Stands.{AllShort}
use Rattle.wh_answer_reader.specs.Seen.{seen}
use Rattle.wh_answer_reader.proofs.causes.numbers_of.Given as goal

abbrev pub invariant-loop-word : goal.invariant-loop-word
invariant-loop-word l = AllShort l.numbers × (map decimal l.numbers ++ seen (drop l.word-index l.words) ≡ seen l.words)
