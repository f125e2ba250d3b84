use Rattle.std.proofs.Common.{drop, map}
use Rattle.wh_text.proofs.PrintLemmas.{Leaves}
use Rattle.wh_cert.specs.Text.{put_filterings}
use Rattle.wh_cert.specs.Said.{said_filter}
use Rattle.wh_cert_print.proofs.print_order.print_filters.Given as goal

-- the rest of the list is left to push
abbrev pub invariant-loop-item : goal.invariant-loop-item
invariant-loop-item l =
    Leaves l.initial.out l.out (put_filterings l.word (map said_filter (drop l.item-index l.items))) (put_filterings l.word (map said_filter l.items))
