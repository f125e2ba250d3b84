-- What the symbols of a system, and the marked symbols of a set of its pairs, are read as.
use Rattle.std.specs.Prelude.{◌≡◌, List, map}
use Rattle.wh_terms.specs.Typing.{Symbols}
use Rattle.wh_terms.specs.Rules.{RewriteRule}
use Rattle.wh_pairs.specs.Marked.{AreMarked}
use Rattle.wh_reduction_pairs.specs.TaskData.{TaskData}
use Rattle.wh_hopoly.specs.Evaluation.{Interpretation, NormalInterpretations}
use Rattle.wh_polycheck.specs.Sides.{Interprets}
use Rattle.wh_polycheck.specs.Marks.{Mark, AreNormalMarks}

-- an interpretation of each symbol by its number, and of marked symbols (Fuhs and Kop 2012)
pub record ReadingsData : Type 0 where
  pub symbols : List Interpretation
  pub marks : List Mark

-- each polynomial is normal in its scope
pub record AreNormal (S : Symbols) (rules : List RewriteRule) (R : ReadingsData) : Type 0 where
  pub symbols : NormalInterpretations R.symbols
  pub marks : AreNormalMarks S rules R.marks

-- each polynomial is normal, and each symbol has an interpretation of its type: so sides have values
pub record AreProper (S : Symbols) (rules : List RewriteRule) (R : ReadingsData) : Type 0 where
  pub interpreted : Interprets S R.symbols
  pub normal : AreNormal S rules R

-- the readings are of the system's symbols and of the marked symbols of the set, in order
pub record AreReadingsFor (T : TaskData) (R : ReadingsData) : Type 0 where
  pub kinds : map (λ s. s.kind) R.symbols ≡ T.symbols.funs
  pub marked : AreMarked T.pairs T.set (map (λ m. m.symbol) R.marks)
