use Rattle.std.proofs.Common.{drop, map}
use Rattle.wh_text.proofs.PrintLemmas.{Leaves}
use Rattle.wh_order_inference.specs.Said.{inference}
use Rattle.wh_cert.specs.Text.{put_all_shown}
use Rattle.wh_cert_print.proofs.print_order.print_inferences.Given as goal

-- the rest of the list is left to push
abbrev pub invariant-loop-item : goal.invariant-loop-item
invariant-loop-item l =
    Leaves l.initial.out l.out (put_all_shown l.word (map inference (drop l.item-index l.items))) (put_all_shown l.word (map inference l.items))
