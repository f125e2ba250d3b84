use Rattle.wh_test_terms.proofs.numbering_rows.+add_doubled.Given as goal

abbrev pub decreases-add_doubled : goal.decreases-add_doubled
decreases-add_doubled l = l.times
