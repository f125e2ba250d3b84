use Rattle.std.proofs.Common.{drop}
use Rattle.wh_poly.specs.Erase.{sum_of, product_of, arguments_of}
use Rattle.wh_text.proofs.PrintLemmas.{Leaves}
use Rattle.wh_cert.specs.PolyText.{put_sum, put_factors, put_more}
use Rattle.wh_cert_print.proofs.poly_printer.+print_poly.Given as goal

-- the rest of each list is left to push
abbrev pub invariant-print_sum-loop-item : goal.invariant-print_sum-loop-item
invariant-print_sum-loop-item l = Leaves l.initial.out l.out (put_sum (sum_of (drop l.item-index l.items))) (put_sum (sum_of l.items))

abbrev pub invariant-print_factors-loop-item : goal.invariant-print_factors-loop-item
invariant-print_factors-loop-item l =
    Leaves l.initial.out l.out (put_factors (product_of (drop l.item-index l.item-items))) (put_factors (product_of l.item-items))

abbrev pub invariant-print_more-loop-item : goal.invariant-print_more-loop-item
invariant-print_more-loop-item l =
    Leaves l.initial.out l.out (put_more (arguments_of (drop l.item-index l.items))) (put_more (arguments_of l.items))
