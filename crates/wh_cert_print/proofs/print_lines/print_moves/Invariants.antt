use Rattle.std.proofs.Common.{drop}
use Rattle.wh_text.proofs.PrintLemmas.{Leaves}
use Rattle.wh_cert.specs.Text.{put_moves}
use Rattle.wh_cert_print.proofs.print_lines.print_moves.Given as goal

-- the rest of the list is left to push
abbrev pub invariant-loop-item : goal.invariant-loop-item
invariant-loop-item l = Leaves l.initial.out l.out (put_moves (drop l.item-index l.items)) (put_moves l.items)
