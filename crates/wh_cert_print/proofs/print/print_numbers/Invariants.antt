use Rattle.std.proofs.Common.{drop}
use Rattle.wh_text.proofs.PrintLemmas.{Leaves}
use Rattle.wh_cert.specs.Text.{put_numbers}
use Rattle.wh_cert_print.proofs.print.print_numbers.Given as goal

-- the rest of the list is left to push
abbrev pub invariant-loop-number : goal.invariant-loop-number
invariant-loop-number l = Leaves l.initial.out l.out (put_numbers (drop l.number-index l.numbers)) (put_numbers l.numbers)
