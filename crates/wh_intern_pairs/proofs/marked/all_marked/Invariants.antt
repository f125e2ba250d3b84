use Rattle.std.proofs.Common.{◌≤◌, length, map}
use Rattle.wh_intern_pairs.specs.SidesAsPairs.{heads_of}
use Rattle.wh_pairs.specs.Marked.{IsMarked}
use Rattle.wh_subterm.specs.SubtermRows.{chosen, chosen_symbols}
use Rattle.wh_pairs.proofs.ByPlace.{Before}
use Rattle.wh_intern_pairs.proofs.marked.all_marked.Given as goal

abbrev pub invariant-loop-choice : goal.invariant-loop-choice
invariant-loop-choice l =
    (l.place ≤ length l.set) × Before (λ f. IsMarked (map heads_of l.sides) l.set f) (chosen_symbols (map chosen l.args)) l.choice-index
