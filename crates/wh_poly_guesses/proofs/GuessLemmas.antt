-- What readings of the space give to the evaluation of sides, and guesses that are changed.
use Rattle.std.proofs.Common.{◌≡◌, ◌<◌, ℕ, List, map, length, Some, slice_get, get_or, All, Contains, refl, sym, subst, ◌∙◌, arith}
use mathlib.Core.Path.{subst₂}
use Rattle.std.proofs.lemmas.List.{length-map}
use Rattle.std.proofs.lemmas.List.Elements.{All-contains}
use Rattle.wh_types.specs.Ty.{arguments}
use Rattle.wh_types.specs.Erase.{ty}
use Rattle.wh_terms.specs.Typing.{Symbols}
use Rattle.wh_terms.specs.Rules.{RewriteRule}
use Rattle.wh_pairs.specs.PairData.{PairData, IsIncreasing, pair_data}
use Rattle.wh_pairs.specs.declared.pair.Pair.{Pair}
use Rattle.wh_pairs.specs.Marked.{AreMarked}
use Rattle.wh_pairs.proofs.ByPlace.{contains_at, contains_number, place_of, unmap}
use Rattle.wh_pairs.proofs.SetLemmas.{all_from_members}
use Rattle.wh_reduction_pairs.specs.TaskData.{TaskData, numbers_from}
use Rattle.wh_reduction_pairs.specs.TaskView.{task_data}
use Rattle.wh_reduction_pairs.specs.declared.task.Task.{Task}
use Rattle.wh_reduction_pairs.proofs.Numbers.{numbers_are}
use Rattle.wh_reduction_pairs.proofs.TaskLemmas.{pair_at}
use Rattle.wh_hopoly.specs.Evaluation.{Interpretation, NormalInterpretations}
use Rattle.wh_hopoly.specs.Erase.{interpretation, interpretations}
use Rattle.wh_hopoly.specs.declared.expression.Symbol.{Symbol}
use Rattle.wh_polycheck.specs.Marks.{Mark, marked_types, AreNormalMarks, HasMarkedSides}
use Rattle.wh_polycheck.specs.Readings.{ReadingsData, AreNormal, AreProper}
use Rattle.wh_polycheck.specs.ReadingsView.{readings_data}
use Rattle.wh_polycheck.specs.SideResults.{mark, marks_of}
use Rattle.wh_polycheck.specs.Covering.{HaveTypedSides, IsTypedTask}
use Rattle.wh_polycheck.specs.declared.marks.MarkedSymbol.{MarkedSymbol}
use Rattle.wh_polycheck.specs.declared.marks.Readings.{Readings}
use Rattle.wh_poly_covering.proofs.Walks.{kinds_are, marks_are}
use Rattle.wh_polycheck.proofs.ProperReadings.{proper_readings, sides_of_set}
use Rattle.wh_poly_space.specs.Space.{IsOfSpace}
use Rattle.wh_poly_guesses.specs.Coefficients.{AreOfSpace}
use Rattle.wh_poly_guesses.specs.Guesses.{IsSearchTask, IsReadSymbol, IsReadMark, IsGuess}
use Rattle.wh_poly_guesses.specs.Tasks.{IsGuessOf, guess_data}
use Rattle.wh_poly_guesses.specs.declared.guess.Guess.{Guess}

-- readings of the space

module _ (T : TaskData) (R : ReadingsData) (are : AreOfSpace T R) where
  normal_symbols : NormalInterpretations R.symbols
  normal_symbols f s at =
      let of = All-contains (λ s. IsOfSpace (arguments s.kind) s.polynomial) R.symbols s are.symbols_of_space (contains_at R.symbols f s at) in
      of.normal

  normal_marks : AreNormalMarks T.symbols T.rules R.marks
  normal_marks m found =
      let of = All-contains (λ m. IsOfSpace (marked_types T.symbols T.rules m.symbol) m.polynomial) R.marks m are.marks_of_space found in
      of.normal

  pub space_normal : AreNormal T.symbols T.rules R
  space_normal = record { symbols = normal_symbols; marks = normal_marks }

  pub space_proper : AreProper T.symbols T.rules R
  space_proper = proper_readings T R are.readings space_normal

  pub space_sides : IsTypedTask T → (n : ℕ) (p : PairData) → Contains T.set n → slice_get T.pairs n ≡ Some p → HasMarkedSides T.symbols T.rules R.marks p
  space_sides typed n p found at = sides_of_set T.pairs T.set R.marks are.readings.marked T.symbols T.rules typed.typed p (n, found, at)

-- so it is of the pair with a place in the program's set
pub sides_at : (t : Task) (R : ReadingsData) → AreOfSpace (task_data t) R → IsTypedTask (task_data t) → (i : ℕ) (d : Pair) → i < length t.set.now
    → HasMarkedSides (task_data t).symbols (task_data t).rules R.marks (pair_data (get_or t.pairs.now (get_or t.set.now i 0) d))
sides_at t R are typed i d within =
    space_sides (task_data t) R are typed (get_or t.set.now i 0) (pair_data (get_or t.pairs.now (get_or t.set.now i 0) d))
    (contains_number t.set.now i within) (pair_at t typed.task i d within)

-- the readings of a guess are of the space

module _ (T : TaskData) (symbols : List Symbol) (marks : List MarkedSymbol) (guess : IsGuess T symbols marks) where
  symbols_in : All (λ s. IsOfSpace (arguments s.kind) s.polynomial) (interpretations symbols)
  symbols_in = all_from_members (λ s. IsOfSpace (arguments s.kind) s.polynomial) (interpretations symbols) (λ s found.
      let at = place_of (interpretations symbols) s found in
      let u = unmap interpretation symbols at.0 s at.1 in
      subst (λ (s : Interpretation). IsOfSpace (arguments s.kind) s.polynomial) u.2 (All-contains IsReadSymbol symbols u.0 guess.symbols_read (contains_at symbols at.0 u.0 u.1)))

  marks_in : All (λ m. IsOfSpace (marked_types T.symbols T.rules m.symbol) m.polynomial) (marks_of marks)
  marks_in = all_from_members (λ m. IsOfSpace (marked_types T.symbols T.rules m.symbol) m.polynomial) (marks_of marks) (λ m found.
      let at = place_of (marks_of marks) m found in
      let u = unmap mark marks at.0 m at.1 in
      subst (λ (m : Mark). IsOfSpace (marked_types T.symbols T.rules m.symbol) m.polynomial) u.2
      (All-contains (IsReadMark T.symbols T.rules) marks u.0 guess.marks_read (contains_at marks at.0 u.0 u.1)))

  guess_in : AreOfSpace T (record { symbols = interpretations symbols; marks = marks_of marks })
  guess_in = record {
    readings = record {
      kinds = kinds_are symbols ∙ guess.kinds;
      marked = subst (AreMarked T.pairs T.set) (sym (marks_are marks)) guess.marked;
    };
    symbols_of_space = symbols_in;
    marks_of_space = marks_in;
  }

pub guess_of_space : (t : Task) (g : Guess) → IsGuessOf t g → AreOfSpace (task_data t) (guess_data g)
guess_of_space t g guess = guess_in (task_data t) g.symbols.items g.marks.items guess

-- the readings that a guess gives out are those that it stands for
pub readings_are : (r : Readings) (g : Guess) → r.symbols.now ≡ g.symbols.items → r.marks.now ≡ g.marks.items → readings_data r ≡ guess_data g
readings_are r g symbols marks =
    let Is = λ (xs : List Symbol) (ms : List MarkedSymbol). readings_data r ≡ record { symbols = interpretations xs; marks = marks_of ms } in
    subst₂ Is symbols marks refl

pub readings_in : (t : Task) (r : Readings) (g : Guess) → IsGuessOf t g → r.symbols.now ≡ g.symbols.items → r.marks.now ≡ g.marks.items
    → AreOfSpace (task_data t) (readings_data r)
readings_in t r g guess symbols marks = subst (AreOfSpace (task_data t)) (sym (readings_are r g symbols marks)) (guess_of_space t g guess)

-- a guess with one symbol or marked symbol read anew

pub guess_symbols_new : (T : TaskData) (xs ys : List Symbol) (ms : List MarkedSymbol) → map (λ s. ty s.kind) ys ≡ map (λ s. ty s.kind) xs
    → All IsReadSymbol ys → IsGuess T xs ms → IsGuess T ys ms
guess_symbols_new T xs ys ms kinds read guess =
    record { kinds = kinds ∙ guess.kinds; marked = guess.marked; symbols_read = read; marks_read = guess.marks_read }

pub guess_marks_new : (T : TaskData) (xs : List Symbol) (ms ns : List MarkedSymbol) → map (λ m. m.symbol) ns ≡ map (λ m. m.symbol) ms
    → All (IsReadMark T.symbols T.rules) ns → IsGuess T xs ms → IsGuess T xs ns
guess_marks_new T xs ms ns symbols read guess =
    record { kinds = guess.kinds; marked = subst (AreMarked T.pairs T.set) (sym symbols) guess.marked; symbols_read = guess.symbols_read; marks_read = read }

-- a task of the search, by the program's list of pairs
pub search_task : (S : Symbols) (rules : List RewriteRule) (pairs : List Pair) (set covered : List ℕ) → HaveTypedSides S rules (map pair_data pairs)
    → All (λ n. n < length pairs) set → IsIncreasing set → covered ≡ numbers_from 0 (length rules)
    → IsSearchTask (record { symbols = S; rules = rules; pairs = map pair_data pairs; set = set; covered = covered })
search_task S rules pairs set covered typed within up whole = record {
  typed = record {
    task = record {
      within = all_from_members (λ n. n < length (map pair_data pairs)) set (λ n found.
          let h = All-contains (λ n. n < length pairs) set n within found in omega (arith, h, length-map pairs pair_data));
      increasing = up;
      are_rules = all_from_members (λ n. n < length rules) covered (λ n found.
          let at = place_of covered n found in
          let (is, less) = numbers_are 0 (length rules) at.0 n (subst (λ (l : List ℕ). slice_get l at.0 ≡ Some n) whole at.1) in omega (arith, is, less));
    };
    typed = typed;
  };
  whole = whole;
}
