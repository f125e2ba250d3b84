-- Readings as the search keeps them, and the task that they are for.
use Rattle.std.specs.Prelude.{◌≡◌, List, map, All}
use Rattle.wh_types.specs.Ty.{arguments}
use Rattle.wh_types.specs.Erase.{ty}
use Rattle.wh_terms.specs.Typing.{Symbols}
use Rattle.wh_terms.specs.Rules.{RewriteRule}
use Rattle.wh_pairs.specs.Marked.{AreMarked}
use Rattle.wh_reduction_pairs.specs.TaskData.{TaskData, CoversAll}
use Rattle.wh_poly.specs.Erase.{poly}
use Rattle.wh_hopoly.specs.declared.expression.Symbol.{Symbol}
use Rattle.wh_polycheck.specs.Marks.{marked_types}
use Rattle.wh_polycheck.specs.declared.marks.MarkedSymbol.{MarkedSymbol}
use Rattle.wh_polycheck.specs.Covering.{IsTypedTask}
use Rattle.wh_poly_space.specs.Space.{IsOfSpace}

-- a task of the search: the sides of its pairs are typed, and all rules are to be covered
pub record IsSearchTask (T : TaskData) : Type 0 where
  pub typed : IsTypedTask T
  pub whole : CoversAll T

-- the symbol is read by a polynomial that is tried for its type
abbrev pub IsReadSymbol : Symbol → Type 0
IsReadSymbol s = IsOfSpace (arguments (ty s.kind)) (poly s.poly)

-- the marked symbol is read by a polynomial that is tried for the arguments that its rules need
abbrev pub IsReadMark : Symbols → List RewriteRule → MarkedSymbol → Type 0
IsReadMark S rules m = IsOfSpace (marked_types S rules m.symbol) (poly m.poly)

-- all symbols, and the marked symbols of the set, are read by polynomials that are tried (ours)
pub record IsGuess (T : TaskData) (symbols : List Symbol) (marks : List MarkedSymbol) : Type 0 where
  pub kinds : map (λ s. ty s.kind) symbols ≡ T.symbols.funs
  pub marked : AreMarked T.pairs T.set (map (λ m. m.symbol) marks)
  pub symbols_read : All IsReadSymbol symbols
  pub marks_read : All (IsReadMark T.symbols T.rules) marks
