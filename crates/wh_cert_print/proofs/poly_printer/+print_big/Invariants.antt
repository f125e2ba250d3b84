use Rattle.wh_cert_print.proofs.poly_printer.+print_big.Given as goal

abbrev pub decreases-print_big : goal.decreases-print_big
decreases-print_big l = l.number
