-- A guess whose first symbols are read by new lists.
use Rattle.std.specs.Bool.{OnTrue}
use Rattle.std.proofs.Common.{◌≡◌, ◌<◌, ℕ, zero, suc, List, [], ◌∷◌, Bool, true, false, Vec, Global, length, map, get_or, ap, arith}
use Rattle.wh_reduction_pairs.specs.TaskView.{task_data}
use Rattle.wh_polycheck.specs.declared.marks.MarkedSymbol.{MarkedSymbol}
use Rattle.wh_poly_guesses.specs.Reads.{AreReadBy, AreMarksBy}
use Rattle.wh_poly_guesses.specs.Tasks.{IsGuessOf}
use Rattle.wh_reduction_pairs.specs.declared.task.Task.{Task}
use Rattle.wh_poly_guesses.specs.declared.guess.Guess.{Guess}
use Rattle.wh_poly_guesses.proofs.ReadLemmas.{mixed}

abbrev pub IsMixed : Task → List MarkedSymbol → ℕ → List (List ℕ) → List (List ℕ) → Guess → Type 0
IsMixed t ms n new old g = record {
  guess : IsGuessOf t g;
  marks : map (λ (m : MarkedSymbol). m.symbol) g.marks.items ≡ map (λ (m : MarkedSymbol). m.symbol) ms;
  read : AreReadBy (mixed n new old) g.symbols.items;
  read_marks : AreMarksBy (task_data t).symbols (task_data t).rules (mixed n new old) (length g.symbols.items) g.marks.items;
}

pub item_at : (lists : List (Vec ℕ Global)) (n : ℕ) (x : Vec ℕ Global) → n < length lists → x ≡ get_or lists n x → x.items ≡ get_or (map (λ (l : Vec ℕ Global). l.items) lists) n []
item_at [] n x within is = absurd (omega (arith, within))
item_at (y ∷ lists) zero x within is = ap (λ (l : Vec ℕ Global). l.items) is
item_at (y ∷ lists) (suc n) x within is = item_at lists n x (omega (arith, within)) is

pub told_same : (told : Bool) (P : Type 0) → told ≡ true → OnTrue told P → P
told_same true P is h = h
told_same false P is h = absurd (cc)
