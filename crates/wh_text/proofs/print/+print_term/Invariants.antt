use Rattle.std.proofs.Common.{drop}
use Rattle.wh_text.specs.Spelling.{put_each}
use Rattle.wh_text.specs.Erase.{rtms}
use Rattle.wh_text.proofs.PrintLemmas.{Leaves}
use Rattle.wh_text.proofs.print.+print_term.Given as goal

-- the terms from here on are left to push, with the sign before the next one
abbrev pub invariant-print_each-loop-term : goal.invariant-print_each-loop-term
invariant-print_each-loop-term l =
    Leaves l.initial.out l.out (put_each l.sign l.other (rtms (drop l.term-index l.term-items))) (put_each l.first l.other (rtms l.term-items))
