use Rattle.wh_test_terms.proofs.stack.+add_balanced.Given as goal

abbrev pub decreases-add_balanced : goal.decreases-add_balanced
decreases-add_balanced l = l.levels
