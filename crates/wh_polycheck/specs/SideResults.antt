-- The answers of the calls that evaluate a side of a rule or of a pair.
use Rattle.std.specs.Prelude.{List, Bool, map}
use Rattle.wh_terms.specs.Tree.{Tm}
use Rattle.wh_terms.specs.Typing.{Symbols, Declared}
use Rattle.wh_terms.specs.Rules.{RewriteRule}
use Rattle.wh_pairs.specs.PairData.{PairData}
use Rattle.wh_poly.specs.Polynomials.{Polynomial}
use Rattle.wh_hopoly.specs.Evaluation.{Interpretation}
use Rattle.wh_poly.specs.Limits.{Exceeds, Overflows, TooLarge}
use Rattle.wh_hopoly.specs.Outcomes.{IsFaultOf}
use Rattle.wh_poly.specs.Erase.{poly}
use Rattle.wh_hopoly.specs.declared.fault.PolyFault.{PolyFault}
use Rattle.wh_hopoly.specs.declared.fault.PolyFault.TheVariants.{Overflow, TooLarge as too_large}
use Rattle.wh_polycheck.specs.declared.marks.MarkedSymbol.{MarkedSymbol}
use Rattle.wh_polycheck.specs.Sides.{types_of_metas, side_expression, marked_expression, IsNormOfSide, IsValueOfSide}
use Rattle.wh_polycheck.specs.Marks.{Mark, with_marks, mark_number, head_of_side, arguments_of_side, IsNormOfPairSide, IsValueOfPairSide}

-- the mark that a `MarkedSymbol` stands for
abbrev pub mark : MarkedSymbol → Mark
mark m = record { symbol = m.symbol; polynomial = poly m.poly }

abbrev pub marks_of : List MarkedSymbol → List Mark
marks_of = map mark

-- one of the values exceeds the limit that the fault names (ours)
abbrev pub HasExcess : (Polynomial → Type 0) → PolyFault → Type 0
HasExcess IsValue (Overflow k) = (w : Polynomial) × IsValue w × Overflows w
HasExcess IsValue (too_large k) = (w : Polynomial) × IsValue w × TooLarge w

-- p is the normal form of the side (Fuhs and Kop 2012), and no value on the way to it exceeds a limit (ours)
abbrev pub SideComesTo : List Interpretation → List Declared → Tm → Polynomial → Type 0
SideComesTo symbols M t p = IsNormOfSide symbols M t p × ((w : Polynomial) → IsValueOfSide symbols M t w → Exceeds w → ⊥)

-- a value on the way to the side's normal form exceeds the limit that is named, and the rule of the part that is named
-- gives one that does (ours)
abbrev pub IsFaultOfSide : List Interpretation → List Declared → Tm → PolyFault → Type 0
IsFaultOfSide symbols M t e =
    HasExcess (IsValueOfSide symbols M t) e × IsFaultOf symbols (types_of_metas M) (side_expression M t) e

-- p is the normal form of a side of a pair, whose expression is a marked symbol with the side's arguments, and no value
-- on the way to it exceeds a limit
abbrev pub PairSideComesTo : Symbols → List RewriteRule → List Interpretation → List Mark → PairData → Bool → Polynomial → Type 0
PairSideComesTo S rules symbols marks a right p =
    IsNormOfPairSide S rules symbols marks a right p
    × ((w : Polynomial) → IsValueOfPairSide S rules symbols marks a right w → Exceeds w → ⊥)

abbrev pub IsFaultOfPairSide : Symbols → List RewriteRule → List Interpretation → List Mark → PairData → Bool → PolyFault → Type 0
IsFaultOfPairSide S rules symbols marks a right e =
    HasExcess (IsValueOfPairSide S rules symbols marks a right) e
    × IsFaultOf (with_marks S rules symbols marks) (types_of_metas a.metas)
    (marked_expression a.metas (mark_number symbols marks (head_of_side a right)) (arguments_of_side a right)) e
