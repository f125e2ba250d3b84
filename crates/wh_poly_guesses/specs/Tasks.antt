-- The task of a search and its guess, as the program keeps them.
use Rattle.std.specs.Prelude.{ℕ, List}
use Rattle.wh_reduction_pairs.specs.TaskView.{task_data}
use Rattle.wh_reduction_pairs.specs.declared.task.Task.{Task}
use Rattle.wh_hopoly.specs.Erase.{interpretations}
use Rattle.wh_polycheck.specs.Readings.{ReadingsData}
use Rattle.wh_polycheck.specs.SideResults.{marks_of}
use Rattle.wh_poly_guesses.specs.Guesses.{IsSearchTask, IsGuess}
use Rattle.wh_poly_guesses.specs.Reads.{IsChanged}
use Rattle.wh_poly_guesses.specs.declared.guess.Guess.{Guess}

-- the task is one of the search
abbrev pub IsTaskOf : Task → Type 0
IsTaskOf t = IsSearchTask (task_data t)

-- the readings that the guess stands for
abbrev pub guess_data : Guess → ReadingsData
guess_data g = record { symbols = interpretations g.symbols.items; marks = marks_of g.marks.items }

-- the guess reads all symbols, and the marked symbols of the set
abbrev pub IsGuessOf : Task → Guess → Type 0
IsGuessOf t g = IsGuess (task_data t) g.symbols.items g.marks.items

-- what the first guess reads by some lists is read in the second one by others, which differ from these at the number
-- alone, where they have these coefficients
abbrev pub IsChangedGuess : Task → ℕ → List ℕ → Guess → Guess → Type 0
IsChangedGuess t number coefficients old new =
    IsChanged (task_data t).symbols (task_data t).rules number coefficients old.symbols.items old.marks.items new.symbols.items
    new.marks.items
