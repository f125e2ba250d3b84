use Rattle.std.proofs.Common.{drop, map}
use Rattle.wh_text.proofs.PrintLemmas.{Leaves}
use Rattle.wh_cert.specs.Text.{put_interps}
use Rattle.wh_cert.specs.Said.{said_interp}
use Rattle.wh_cert_print.proofs.print_lines.print_interps.Given as goal

-- the rest of the list is left to push
abbrev pub invariant-loop-item : goal.invariant-loop-item
invariant-loop-item l =
    Leaves l.initial.out l.out (put_interps l.word (map said_interp (drop l.item-index l.items))) (put_interps l.word (map said_interp l.items))
