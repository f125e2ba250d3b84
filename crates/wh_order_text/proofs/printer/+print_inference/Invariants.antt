use Rattle.std.proofs.Common.{drop}
use Rattle.wh_text.proofs.PrintLemmas.{Leaves}
use Rattle.wh_order_inference.specs.Said.{inferences}
use Rattle.wh_order_text.specs.SignedParts.{put_each}
use Rattle.wh_order_text.proofs.printer.+print_inference.Given as goal

-- the parts from here on are left to push, with the sign before the next one
abbrev pub invariant-print_each-loop-part : goal.invariant-print_each-loop-part
invariant-print_each-loop-part l =
    Leaves l.initial.out l.out (put_each l.sign (inferences (drop l.part-index l.part-items))) (put_each 40 (inferences l.part-items))
