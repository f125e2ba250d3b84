use Rattle.std.proofs.Common.{◌≡◌, ◌++◌, drop}
use Rattle.wh_top_replies.specs.Refuting.{numbers_text}
use Rattle.wh_top_replies.proofs.refuting.numbers_line.Given as goal

abbrev pub invariant-loop-number : goal.invariant-loop-number
invariant-loop-number l = l.text ++ numbers_text (drop l.number-index l.numbers) ≡ l.word ++ numbers_text l.numbers
