use Rattle.std.proofs.Common.{◌≡◌, drop}
use Rattle.wh_answer.specs.Texts.{all_numbered}
use Rattle.wh_answer.proofs.print.put_numbers.Given as goal

abbrev pub invariant-loop-number : goal.invariant-loop-number
invariant-loop-number l = all_numbered l.text (drop l.number-index l.numbers) ≡ all_numbered l.fn.text l.numbers
