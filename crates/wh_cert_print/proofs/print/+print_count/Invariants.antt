use Rattle.wh_cert_print.proofs.print.+print_count.Given as goal

abbrev pub decreases-print_count : goal.decreases-print_count
decreases-print_count l = l.count
