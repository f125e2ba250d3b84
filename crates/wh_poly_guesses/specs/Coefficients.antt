-- The coefficients of the polynomials of all symbols and of listed marked symbols, and whether these polynomials are of
-- their spaces.
use Rattle.std.specs.Prelude.{ℕ, ◌+◌, ◌≡◌, List, [], ◌++◌, Some, All, length, map, get_or, slice_get}
use Rattle.wh_types.specs.Ty.{Ty, arguments}
use Rattle.wh_reduction_pairs.specs.TaskData.{TaskData}
use Rattle.wh_hopoly.specs.Evaluation.{Interpretation}
use Rattle.wh_polycheck.specs.Marks.{Mark, marked_types}
use Rattle.wh_polycheck.specs.Readings.{ReadingsData, AreReadingsFor}
use Rattle.wh_poly_space.specs.Space.{IsOfSpace}
use Rattle.wh_poly_space.specs.Coefficients.{HasCoefficients}

-- the scopes of the polynomials that a guess has: of all symbols in order of declaration, and then of the listed marked
-- symbols (ours)
abbrev pub scopes_of : TaskData → List ℕ → List (List Ty)
scopes_of T marked = map arguments T.symbols.funs ++ map (marked_types T.symbols T.rules) marked

-- the readings of all symbols, and then those of the marked symbols, have the coefficients of the lists, one list for
-- each (ours)
pub record HaveCoefficients (T : TaskData) (lists : List (List ℕ)) (R : ReadingsData) : Type 0 where
  pub of_symbols : (f : ℕ) (s : Interpretation) → slice_get R.symbols f ≡ Some s
      → HasCoefficients (arguments s.kind) (get_or lists f []) s.polynomial
  pub of_marks : (i : ℕ) (m : Mark) → slice_get R.marks i ≡ Some m
      → HasCoefficients (marked_types T.symbols T.rules m.symbol) (get_or lists (length R.symbols + i) []) m.polynomial

-- the readings are of the system's symbols and of the marked symbols of the set, and all are of the space (ours)
pub record AreOfSpace (T : TaskData) (R : ReadingsData) : Type 0 where
  pub readings : AreReadingsFor T R
  pub symbols_of_space : All (λ s. IsOfSpace (arguments s.kind) s.polynomial) R.symbols
  pub marks_of_space : All (λ m. IsOfSpace (marked_types T.symbols T.rules m.symbol) m.polynomial) R.marks
