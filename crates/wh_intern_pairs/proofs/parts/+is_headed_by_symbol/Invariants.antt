use Rattle.wh_intern_pairs.proofs.parts.+is_headed_by_symbol.Given as goal

abbrev pub decreases-is_headed_by_symbol : goal.decreases-is_headed_by_symbol
decreases-is_headed_by_symbol l = l.whole
