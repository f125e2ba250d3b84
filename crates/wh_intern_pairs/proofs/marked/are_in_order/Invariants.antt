use Rattle.std.proofs.Common.{ℕ, ◌+◌, ◌<◌, map, get_or}
use Rattle.wh_subterm.specs.SubtermRows.{chosen, chosen_symbols}
use Rattle.wh_intern_pairs.proofs.marked.are_in_order.Given as goal

abbrev pub invariant-loop-i : goal.invariant-loop-i
invariant-loop-i l = (k : ℕ) → k + 1 < l.i → get_or (chosen_symbols (map chosen l.args)) k 0 < get_or (chosen_symbols (map chosen l.args)) (k + 1) 0
