use Rattle.std.proofs.Common.{◌≡◌, length, map}
use Rattle.wh_reduction_pairs.specs.TaskView.{task_data}
use Rattle.wh_poly_guesses.specs.Tasks.{IsGuessOf}
use Rattle.wh_poly_guesses.specs.Reads.{AreReadBy, AreMarksBy}
use Rattle.wh_poly_guesses.proofs.ReadLemmas.{mixed}
use Rattle.wh_poly_guesses.proofs.making.change_guess.Given as goal

abbrev pub invariant-loop-number : goal.invariant-loop-number
invariant-loop-number l = record {
  guess : IsGuessOf l.task l.guess;
  marks : map (λ m. m.symbol) l.guess.marks.items ≡ map (λ m. m.symbol) l.initial.guess.marks.items;
  read : AreReadBy (mixed l.number (map (λ l. l.items) l.new) (map (λ l. l.items) l.old)) l.guess.symbols.items;
  read_marks : AreMarksBy (task_data l.task).symbols (task_data l.task).rules
      (mixed l.number (map (λ l. l.items) l.new) (map (λ l. l.items) l.old)) (length l.guess.symbols.items) l.guess.marks.items;
}
