-- Nodes of the spaces that the searches for interpretations and for path orders look through.
use Rattle.std.specs.Prelude.{List, All, ◌+◌, length, map}
use Rattle.wh_types.specs.Ty.{arguments}
use Rattle.wh_system.specs.Systems.{SystemData}
use Rattle.wh_cert.specs.Written as w
use Rattle.wh_cert.specs.Interps.{Interp}
use Rattle.wh_hopoly.specs.declared.expression.Move as moved
use Rattle.wh_hopoly.specs.Erase.{transfers}
use Rattle.wh_polycheck.specs.Marks.{marked_types}
use Rattle.wh_polycheck.specs.Readings.{ReadingsData}
use Rattle.wh_order_inference.specs.Inferences.{Inference}
use Rattle.wh_order_node.specs.Filterings.{FilteringData, AreProperSymbols, AreProperMarks}
use Rattle.wh_proof.specs.Looked.{SayReadings, SayFilterings}
use Rattle.wh_poly_moves.specs.Found.{AreApart}
use Rattle.wh_poly_space.specs.Space.{IsOfSpace}
use Rattle.wh_order_lines.specs.Oriented.{IsWithin}
use Rattle.wh_order_space.specs.Space.{IsLow}

-- the lines say readings of the space, and in no line of moves are two between the same monomials (ours)
pub record AreSearched (d : SystemData) (funs marks : List Interp) (rules pairs : List (List moved.Move)) : Type 0 where
  pub readings : ReadingsData
  pub says : SayReadings d funs marks readings
  pub of_space : All (λ s. IsOfSpace (arguments s.kind) s.polynomial) readings.symbols
  pub marks_of_space : All (λ m. IsOfSpace (marked_types d.symbols d.rules m.symbol) m.polynomial) readings.marks
  pub rules_apart : All AreApart (map transfers rules)
  pub pairs_apart : All AreApart (map transfers pairs)

-- the lines say a proper filter of each symbol and of each marked one, with a precedence below the number of these
-- together, and inferences that are within the limits of lines (ours)
pub record AreOrders (d : SystemData) (funs marks : List w.Filtering) (rules pairs : List Inference) : Type 0 where
  pub filtering : FilteringData
  pub says : SayFilterings d funs marks filtering
  pub proper : AreProperSymbols d.symbols filtering
  pub marks_proper : AreProperMarks d.symbols d.rules filtering
  pub low : All (IsLow (length filtering.symbols + length filtering.marks)) filtering.symbols
  pub marks_low : All (λ m. IsLow (length filtering.symbols + length filtering.marks) m.filter) filtering.marks
  pub rules_within : All IsWithin rules
  pub pairs_within : All IsWithin pairs

-- the node is one that the search looks for: of interpretations of the space, whatever rules it lists, or of a path
-- order of the space; of any other node nothing is said
abbrev pub IsSearched : SystemData → w.Node → Type 0
IsSearched d (w.interpretations usable funs marks rules pairs drop) = AreSearched d funs marks rules pairs
IsSearched d (w.order funs marks rules pairs drop) = AreOrders d funs marks rules pairs
IsSearched d _ = Unit {0}
