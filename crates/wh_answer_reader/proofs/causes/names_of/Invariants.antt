use Rattle.std.proofs.Common.{◌≡◌, ◌++◌, drop}
use Rattle.wh_answer.specs.Stands.{AllWords}
use Rattle.wh_answer_reader.specs.Seen.{seen}
use Rattle.wh_answer_reader.proofs.causes.names_of.Given as goal

abbrev pub invariant-loop-word : goal.invariant-loop-word
invariant-loop-word l = AllWords l.names × (l.names ++ seen (drop l.word-index l.words) ≡ seen l.words)
