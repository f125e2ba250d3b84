use Rattle.wh_text.proofs.print.+print_number.Given as goal

abbrev pub decreases-print_number : goal.decreases-print_number
decreases-print_number l = l.n
