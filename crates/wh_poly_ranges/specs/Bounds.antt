-- Ranges as the program keeps them: two lists of coefficients, with the guesses that have them.
use Rattle.std.specs.Prelude.{ℕ, ◌<◌, ◌≡◌, ◌≢◌, ◌⊎◌, List, [], map, length, get_or}
use Rattle.std.specs.Global.{Vec}
use Rattle.wh_reduction_pairs.specs.TaskView.{task_data}
use Rattle.wh_reduction_pairs.specs.declared.task.Task.{Task}
use Rattle.wh_poly_guesses.specs.Coefficients.{HaveCoefficients}
use Rattle.wh_poly_guesses.specs.Tasks.{IsGuessOf, guess_data}
use Rattle.wh_poly_ranges.specs.Excluded.{coefficient_in}
use Rattle.wh_poly_ranges.specs.declared.bounds.Bound.{Bound}
use Rattle.wh_poly_ranges.specs.declared.bounds.Ranges.{Ranges}

-- the lists of coefficients that vectors hold
abbrev pub lists_in : List (Vec ℕ) → List (List ℕ)
lists_in = map (λ l. l.items)

abbrev pub lists_of : Bound → List (List ℕ)
lists_of b = lists_in b.lists.items

-- the guess is one for the task, and has the coefficients
pub record IsBound (t : Task) (b : Bound) : Type 0 where
  pub guess : IsGuessOf t b.guess
  pub coefficients : HaveCoefficients (task_data t) (lists_of b) (guess_data b.guess)

pub record AreRanges (t : Task) (r : Ranges) : Type 0 where
  pub low : IsBound t r.low
  pub high : IsBound t r.high

-- the lists have such a coefficient
abbrev pub Has : List (List ℕ) → ℕ → ℕ → Type 0
Has lists n j = j < length (get_or lists n [])

-- the second lists are the first ones with this value at one place, if they have it; all other coefficients are the
-- same (ours)
pub record IsSetTo (n j value : ℕ) (old new : List (List ℕ)) : Type 0 where
  pub sizes : (m : ℕ) → length (get_or new m []) ≡ length (get_or old m [])
  pub here : Has old n j → coefficient_in new n j ≡ value
  pub others : (m i : ℕ) → (m ≢ n) ⊎ (i ≢ j) → coefficient_in new m i ≡ coefficient_in old m i
