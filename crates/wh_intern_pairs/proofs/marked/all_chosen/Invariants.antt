use Rattle.std.proofs.Common.{map, ℕ, Contains}
use Rattle.wh_intern_pairs.specs.SidesAsPairs.{heads_of}
use Rattle.wh_pairs.specs.Marked.{Heads}
use Rattle.wh_subterm.specs.SubtermRows.{chosen, chosen_symbols}
use Rattle.wh_pairs.proofs.ByPlace.{Before}
use Rattle.wh_intern_pairs.proofs.marked.all_chosen.Given as goal

abbrev pub invariant-loop-number : goal.invariant-loop-number
invariant-loop-number l = (Before (λ n. (f : ℕ) → Heads (map heads_of l.sides) f n → Contains (chosen_symbols (map chosen l.args)) f) l.set l.number-index)
